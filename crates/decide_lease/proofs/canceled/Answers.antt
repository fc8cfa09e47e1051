use mathlib.Core.Path.{sym, ap}
use Rattle.rules.specs.Rules.{canceled}
use Rattle.state.specs.State.{book_of, after_fallback_of}
use Rattle.state.proofs.Courses.{leads-to}
use Rattle.decide_lease.proofs.Held.{held-at, held-nowhere}
use borrow.Author.Rules.{rules}
use Rattle.decide_lease.proofs.canceled.Goals as goal

pub returns-then-axis-lt8 : goal.returns-then-axis-lt8
unfolding canceled after_fallback_of book_of
returns-then-axis-lt8 c = (
  c.falls.ensures.0,
  λ f owner id inside t q h s shown.
      let a = c.args in
      leads-to (ap (λ o. canceled o a.time (book_of f a.numbers t)) (sym (held-at owner id (book_of f a.numbers t) a.axis shown (search rules))))
      (c.falls.ensures.1 f (record { axis = search rules; at = search rules }) t q h s),
)

pub returns : goal.returns
unfolding canceled book_of
returns c = (
  c.refused.ensures.0,
  λ f owner id inside t q h s shown.
      let a = c.args in
      leads-to
      (ap (λ o. canceled o a.time (book_of f a.numbers t)) (sym (held-nowhere owner id (book_of f a.numbers t) a.axis shown (search rules))))
      (c.refused.ensures.1 f inside t q h s),
)

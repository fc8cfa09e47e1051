use borrow.Author.Rules.{rules}
use borrow.Author.Tests.{lt-ltb, le-ltb}
use mathlib.Core.Path.{◌≡◌, sym, ap, ◌∙◌}
use Rattle.model.specs.declared.Renewal.{Renewal}
use Rattle.rules.specs.Admission.{first_failing, holds_of, is_some, ready, renew_checks}
use Rattle.rules.specs.Book.{Book}
use Rattle.state.specs.State.{book_of}
use Rattle.decide_ready.specs.Checks.{check_of, after_ready}
use Rattle.decide_ready.specs.declared.Check.TheVariants.{Passed}
use Rattle.decide_ready.proofs.Checks.{not-ready, is-ready, renew-begins}
use Rattle.decide_lease.proofs.Held.{lease-held, none-held}
use Rattle.decide_lease.proofs.checks_of_renew.Goals as goal

-- readiness is passed
past-ready : (r : Renewal) (b : Book) → check_of (first_failing (ready r.now b)) ≡ Passed
    → first_failing (renew_checks r b) ≡ first_failing (after_ready (renew_checks r b))
past-ready r b e = is-ready r.now b (renew_checks r b) (renew-begins r b) e

pub returns-in-Failed : goal.returns-in-Failed
returns-in-Failed c =
    λ t shown.
    let a = c.args in
    let b = book_of a.fixed a.numbers t in
    sym
    (not-ready a.renewal.now b (renew_checks a.renewal b) (renew-begins _ _) _
    (sym (c.ready-readiness.ensures t) ∙ c.in-Failed.is))

pub returns-then-bad_duration : goal.returns-then-bad_duration
unfolding renew_checks ready first_failing book_of
returns-then-bad_duration c =
    λ t shown.
    let a = c.args in
    sym
    (ap check_of (past-ready a.renewal (book_of a.fixed a.numbers t) (sym (c.ready-readiness.ensures t) ∙ c.in-Passed.is))
    ∙ simp (sym c.bad_duration.ensures ∙ c.if-bad_duration.true))

pub returns-then-axis-gt7 : goal.returns-then-axis-gt7
unfolding renew_checks ready first_failing book_of is_some
returns-then-axis-gt7 c =
    λ t shown.
    let a = c.args in
    let b = book_of a.fixed a.numbers t in
    sym
    (ap check_of (past-ready a.renewal b (sym (c.ready-readiness.ensures t) ∙ c.in-Passed.is))
    ∙ simp (
      sym c.bad_duration.ensures ∙ c.if-bad_duration.false,
      none-held a.renewal.owner a.renewal.lease_id b a.axis shown.first (search rules),
    ))

pub returns-then-renewal-lease : goal.returns-then-renewal-lease
unfolding renew_checks ready first_failing book_of is_some holds_of
returns-then-renewal-lease c =
    λ t shown.
    let a = c.args in
    sym
    (ap check_of (past-ready a.renewal (book_of a.fixed a.numbers t) (sym (c.ready-readiness.ensures t) ∙ c.in-Passed.is))
    ∙ simp (
      sym c.bad_duration.ensures ∙ c.if-bad_duration.false,
      lease-held a.fixed a.numbers shown (search rules),
      le-ltb a.slot.lease.last_renewal a.renewal.renewal (search rules),
    ))

pub returns-then-not-end_fits : goal.returns-then-not-end_fits
unfolding renew_checks ready first_failing book_of is_some holds_of
returns-then-not-end_fits c =
    λ t shown.
    let a = c.args in
    sym
    (ap check_of (past-ready a.renewal (book_of a.fixed a.numbers t) (sym (c.ready-readiness.ensures t) ∙ c.in-Passed.is))
    ∙ simp (
      sym c.bad_duration.ensures ∙ c.if-bad_duration.false,
      lease-held a.fixed a.numbers shown (search rules),
      lt-ltb _ _ c.if-renewal-lease.false,
      sym c.end_fits.ensures ∙ c.if-not-end_fits.true,
    ))

pub returns : goal.returns
unfolding renew_checks ready first_failing book_of is_some holds_of
returns c =
    λ t shown.
    let a = c.args in
    sym
    (ap check_of (past-ready a.renewal (book_of a.fixed a.numbers t) (sym (c.ready-readiness.ensures t) ∙ c.in-Passed.is))
    ∙ simp (
      sym c.bad_duration.ensures ∙ c.if-bad_duration.false,
      lease-held a.fixed a.numbers shown (search rules),
      lt-ltb _ _ c.if-renewal-lease.false,
      sym c.end_fits.ensures ∙ c.if-not-end_fits.false,
    ))

use borrow.Author.Tests.{eq-eqb, ne_eqb}
use Rattle.rules.specs.Rules.{exhausted}
use Rattle.state.specs.State.{book_of}
use Rattle.state.proofs.is_exhausted.Goals as goal

pub returns-then-numbers-top : goal.returns-then-numbers-top
unfolding exhausted book_of
returns-then-numbers-top c = λ f t. simp (eq-eqb _ _ c.if-numbers-top.true)

pub returns-then-numbers-top-2 : goal.returns-then-numbers-top-2
unfolding exhausted book_of
returns-then-numbers-top-2 c = λ f t. simp (ne_eqb _ _ c.if-numbers-top.false, eq-eqb _ _ c.if-numbers-top-2.true)

pub returns-else-numbers-top-2 : goal.returns-else-numbers-top-2
unfolding exhausted book_of
returns-else-numbers-top-2 c = λ f t. simp (ne_eqb _ _ c.if-numbers-top.false, ne_eqb _ _ c.if-numbers-top-2.false)

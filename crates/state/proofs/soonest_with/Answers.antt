use borrow.Author.Tests.{eq-eqb, ne_eqb}
use Rattle.state.specs.Stores.{soonest_with}
use Rattle.state.proofs.soonest_with.Goals as goal

pub returns-then-held-eq0 : goal.returns-then-held-eq0
unfolding soonest_with
returns-then-held-eq0 c = simp (eq-eqb _ _ c.if-held-eq0.true)

pub returns : goal.returns
unfolding soonest_with
returns c = simp (ne_eqb _ _ c.if-held-eq0.false)

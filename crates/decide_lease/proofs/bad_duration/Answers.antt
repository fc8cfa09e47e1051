use borrow.Author.Tests.{eq-eqb, ne_eqb}
use Rattle.rules.specs.Admission.{bad_duration}
use Rattle.decide_lease.proofs.bad_duration.Goals as goal

pub returns-then-duration_ms-eq0 : goal.returns-then-duration_ms-eq0
unfolding bad_duration
returns-then-duration_ms-eq0 c = simp (eq-eqb _ _ c.if-duration_ms-eq0.true)

pub returns : goal.returns
unfolding bad_duration
returns c = simp (ne_eqb _ _ c.if-duration_ms-eq0.false)

use Rattle.rules.specs.Admission.{is_some}
use Rattle.state.proofs.is_leased.Goals as goal

pub returns-in-Absent : goal.returns-in-Absent
unfolding is_some
returns-in-Absent c = simp c.in-Absent.is

pub returns-in-Present : goal.returns-in-Present
unfolding is_some
returns-in-Present c = simp c.in-Present.is

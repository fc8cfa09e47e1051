use Rattle.rules.specs.Admission.{holds_of}
use Rattle.decide_tick.proofs.is_lease_over.Goals as goal

pub returns-in-Absent : goal.returns-in-Absent
unfolding holds_of
returns-in-Absent c = simp c.in-Absent.is

pub returns-in-Present : goal.returns-in-Present
unfolding holds_of
returns-in-Present c = simp c.in-Present.is

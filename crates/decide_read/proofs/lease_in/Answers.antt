use Rattle.state.specs.State.{lease_or}
use Rattle.decide_read.proofs.lease_in.Goals as goal

pub returns-in-Absent : goal.returns-in-Absent
unfolding lease_or
returns-in-Absent c = simp (c.in-Absent.is, c.blank-blank.ensures)

pub returns-in-Present : goal.returns-in-Present
unfolding lease_or
returns-in-Present c = simp c.in-Present.is

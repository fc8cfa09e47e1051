use Rattle.decide_reply.specs.Replies.{reason_by}
use Rattle.decide_reply.proofs.fail_reason.Goals as goal

pub returns-in-Absent : goal.returns-in-Absent
unfolding reason_by
returns-in-Absent c = simp c.in-Absent.is

pub returns-in-Present : goal.returns-in-Present
unfolding reason_by
returns-in-Present c = simp c.in-Present.is

use Rattle.decide_reply.specs.Replies.{seen_by}
use Rattle.decide_reply.proofs.seen.Goals as goal

pub returns-in-Absent : goal.returns-in-Absent
unfolding seen_by
returns-in-Absent c = rw c.in-Absent.is

pub returns-in-Present : goal.returns-in-Present
unfolding seen_by
returns-in-Present c = rw c.in-Present.is

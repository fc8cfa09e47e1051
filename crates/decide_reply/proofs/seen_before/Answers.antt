use Rattle.decide_reply.proofs.Replies.{before-fails, before-executes}
use Rattle.decide_reply.proofs.seen_before.Goals as goal

pub returns-in-Absent : goal.returns-in-Absent
returns-in-Absent c = λ s k e. before-fails s _ e c.in-Absent.is

pub returns-in-Present : goal.returns-in-Present
returns-in-Present c = λ s k e. before-executes s _ k e c.in-Present.is

use mathlib.Core.Bool.{true, false}
use Rattle.decide_reply.proofs.Replies.{executed}
use Rattle.decide_reply.proofs.observes_if.Goals as goal

pub returns-then-ok : goal.returns-then-ok
returns-then-ok c = λ s k e. rw c.if-ok.true (executed s true k e)

pub returns : goal.returns
returns c = λ s k e. rw c.if-ok.false (executed s false k e)

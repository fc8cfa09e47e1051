use Rattle.decide_reply.specs.Replies.{failed_by}
use Rattle.decide_reply.proofs.came.Goals as goal

pub returns-in-Nothing : goal.returns-in-Nothing
unfolding failed_by
returns-in-Nothing c = rw c.in-Nothing.is

pub returns-in-ObserveBefore : goal.returns-in-ObserveBefore
unfolding failed_by
returns-in-ObserveBefore c = rw c.in-ObserveBefore.is

pub returns-in-Execute : goal.returns-in-Execute
unfolding failed_by
returns-in-Execute c = rw c.in-Execute.is

pub returns-in-ObserveAfter : goal.returns-in-ObserveAfter
unfolding failed_by
returns-in-ObserveAfter c = rw c.in-ObserveAfter.is c.seen.ensures

pub returns-in-Fallback : goal.returns-in-Fallback
unfolding failed_by
returns-in-Fallback c = rw c.in-Fallback.is

pub returns-in-Record : goal.returns-in-Record
unfolding failed_by
returns-in-Record c = rw c.in-Record.is

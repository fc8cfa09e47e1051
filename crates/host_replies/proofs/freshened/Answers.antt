use Rattle.host_replies.proofs.freshened.Goals as goal

pub returns : goal.returns
returns c = rw c.refreshed.ensures

use Rattle.host_replies.proofs.Refreshes.{cancel-ends}
use Rattle.host_replies.proofs.end_cancel.Goals as goal

pub returns : goal.returns
returns c = cancel-ends c.refresh.ensures

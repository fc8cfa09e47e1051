use Rattle.layout.proofs.Fields.{pending-read}
use borrow.Author.Rules.{rules}
use Rattle.layout.proofs.pending_in.Goals as goal

pub returns : goal.returns
returns c = pending-read _ _ c.read.ensures c.pending_of.ensures

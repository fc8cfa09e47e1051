use Rattle.layout.proofs.Fields.{waiting-read}
use borrow.Author.Rules.{rules}
use Rattle.layout.proofs.waiting_in.Goals as goal

pub returns : goal.returns
returns c = waiting-read _ _ c.read.ensures c.waiting_of.ensures

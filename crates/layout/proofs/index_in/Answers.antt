use Rattle.layout.proofs.Fields.{index_read}
use borrow.Author.Rules.{rules}
use Rattle.layout.proofs.index_in.Goals as goal

pub returns : goal.returns
returns c = index_read _ _ c.read.ensures c.index_of.ensures

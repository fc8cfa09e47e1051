use Rattle.layout.proofs.Fields.{carrying-read}
use borrow.Author.Rules.{rules}
use Rattle.layout.proofs.carrying_in.Goals as goal

pub returns : goal.returns
returns c = carrying-read _ _ c.read.ensures c.carrying_of.ensures

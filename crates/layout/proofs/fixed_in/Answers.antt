use Rattle.layout.proofs.Fields.{fixed-read}
use borrow.Author.Rules.{rules}
use Rattle.layout.proofs.fixed_in.Goals as goal

pub returns : goal.returns
returns c = fixed-read _ _ c.read.ensures c.fixed_of.ensures

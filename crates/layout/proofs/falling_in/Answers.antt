use Rattle.layout.proofs.Fields.{falling-read}
use borrow.Author.Rules.{rules}
use Rattle.layout.proofs.falling_in.Goals as goal

pub returns : goal.returns
returns c = falling-read _ _ c.read.ensures c.falling_of.ensures

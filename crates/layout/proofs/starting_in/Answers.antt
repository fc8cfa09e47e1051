use Rattle.layout.proofs.Fields.{starting-read}
use borrow.Author.Rules.{rules}
use Rattle.layout.proofs.starting_in.Goals as goal

pub returns : goal.returns
returns c = starting-read _ _ c.read.ensures c.starting_of.ensures

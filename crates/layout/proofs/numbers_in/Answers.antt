use Rattle.layout.proofs.Fields.{numbers-read}
use borrow.Author.Rules.{rules}
use Rattle.layout.proofs.numbers_in.Goals as goal

pub returns : goal.returns
returns c = numbers-read _ _ c.read.ensures c.numbers_of.ensures

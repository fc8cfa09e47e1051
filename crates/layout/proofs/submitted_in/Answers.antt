use Rattle.layout.proofs.Fields.{submitted-read}
use borrow.Author.Rules.{rules}
use Rattle.layout.proofs.submitted_in.Goals as goal

pub returns : goal.returns
returns c = submitted-read _ _ c.read.ensures c.receipt_of.ensures

use Rattle.layout.proofs.Fields.{receipt-read}
use borrow.Author.Rules.{rules}
use Rattle.layout.proofs.receipt_at.Goals as goal

pub returns : goal.returns
returns c = receipt-read _ _ _ (search rules) c.read.ensures c.receipt_of.ensures

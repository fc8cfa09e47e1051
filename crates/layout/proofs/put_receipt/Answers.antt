use Rattle.layout.proofs.Becomes.{receipt-becomes}
use borrow.Author.Rules.{rules}
use Rattle.layout.proofs.put_receipt.Goals as goal

pub returns : goal.returns
returns c = receipt-becomes _ (search rules) (search rules) c.write.ensures c.receipt_row-words.ensures

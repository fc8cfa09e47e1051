use Rattle.layout.proofs.Fields.{receipt-read}
use borrow.Author.Rules.{rules}
use Rattle.layout.proofs.keep_receipt.Goals as goal

pub returns : goal.returns
returns c = rw (receipt-read _ _ _ (search rules) c.read-words.ensures c.receipt_of.ensures) at c.put_submitted.ensures

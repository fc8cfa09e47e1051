use Rattle.layout.proofs.Becomes.{submitted-becomes}
use borrow.Author.Rules.{rules}
use Rattle.layout.proofs.put_submitted.Goals as goal

pub returns : goal.returns
returns c = submitted-becomes (search rules) c.write.ensures c.receipt_row-words.ensures

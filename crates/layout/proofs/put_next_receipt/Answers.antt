use Rattle.layout.proofs.Becomes.{next-becomes}
use borrow.Author.Rules.{rules}
use Rattle.layout.proofs.put_next_receipt.Goals as goal

pub returns : goal.returns
returns c = next-becomes _ _ (search rules)

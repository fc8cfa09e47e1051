use Rattle.layout.proofs.Becomes.{reason-becomes}
use borrow.Author.Rules.{rules}
use Rattle.layout.proofs.put_reason.Goals as goal

pub returns : goal.returns
returns c = reason-becomes _ _ _ (search rules) c.reason_number.ensures

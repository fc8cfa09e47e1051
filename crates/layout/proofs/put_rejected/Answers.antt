use Rattle.layout.proofs.Becomes.{rejected-becomes}
use borrow.Author.Rules.{rules}
use Rattle.layout.proofs.put_rejected.Goals as goal

pub returns : goal.returns
returns c = rejected-becomes _ _ _ (search rules) (search rules) (search rules)

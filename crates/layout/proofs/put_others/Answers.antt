use Rattle.layout.proofs.Becomes.{others-becomes}
use borrow.Author.Rules.{rules}
use Rattle.layout.proofs.put_others.Goals as goal

pub returns : goal.returns
returns c = others-becomes _ _ _ (search rules) (search rules) (search rules)

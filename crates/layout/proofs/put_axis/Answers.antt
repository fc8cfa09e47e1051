use Rattle.layout.proofs.Becomes.{axis-becomes}
use borrow.Author.Rules.{rules}
use Rattle.layout.proofs.put_axis.Goals as goal

pub returns : goal.returns
returns c = axis-becomes _ _ (search rules) (search rules)

use Rattle.layout.proofs.Becomes.{active-cleared}
use borrow.Author.Rules.{rules}
use Rattle.layout.proofs.clear_active.Goals as goal

pub returns : goal.returns
returns c = active-cleared _ _ (search rules) (search rules)

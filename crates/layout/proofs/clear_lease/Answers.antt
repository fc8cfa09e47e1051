use Rattle.layout.proofs.Becomes.{lease-cleared}
use borrow.Author.Rules.{rules}
use Rattle.layout.proofs.clear_lease.Goals as goal

pub returns : goal.returns
returns c = lease-cleared _ _ (search rules) (search rules)

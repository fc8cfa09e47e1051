use Rattle.layout.proofs.Fields.{capability-read}
use borrow.Author.Rules.{rules}
use Rattle.layout.proofs.capability_at.Goals as goal

pub returns : goal.returns
returns c = capability-read _ _ _ (search rules) c.read.ensures c.capability_of.ensures

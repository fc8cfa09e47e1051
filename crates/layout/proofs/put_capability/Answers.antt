use Rattle.layout.proofs.Becomes.{capability-becomes}
use borrow.Author.Rules.{rules}
use Rattle.layout.proofs.put_capability.Goals as goal

pub returns : goal.returns
returns c = capability-becomes _ (search rules) (search rules) c.write.ensures c.capability_row-words.ensures

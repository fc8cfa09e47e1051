use Rattle.layout.proofs.Becomes.{slot-becomes}
use borrow.Author.Rules.{rules}
use Rattle.layout.proofs.put_slot.Goals as goal

pub returns : goal.returns
returns c = slot-becomes _ _ (search rules)

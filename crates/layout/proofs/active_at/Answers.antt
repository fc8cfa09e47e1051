use Rattle.layout.proofs.Fields.{active-read}
use borrow.Author.Rules.{rules}
use Rattle.layout.proofs.active_at.Goals as goal

pub returns : goal.returns
returns c = active-read _ _ _ (search rules) c.read.ensures c.active_slot_of.ensures

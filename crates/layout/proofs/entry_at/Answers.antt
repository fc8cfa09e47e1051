use Rattle.layout.proofs.Fields.{entry_read}
use borrow.Author.Rules.{rules}
use Rattle.layout.proofs.entry_at.Goals as goal

pub returns : goal.returns
returns c = entry_read _ _ _ (search rules) c.read.ensures c.replay_slot_of.ensures

use Rattle.layout.proofs.Fields.{lease-read}
use borrow.Author.Rules.{rules}
use Rattle.layout.proofs.lease_at.Goals as goal

pub returns : goal.returns
returns c = lease-read _ _ _ (search rules) c.read.ensures c.lease_slot_of.ensures

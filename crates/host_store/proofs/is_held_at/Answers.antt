use Rattle.host_store.proofs.Finds.{held-there}
use Rattle.host_store.proofs.is_held_at.Goals as goal

pub returns : goal.returns
returns c = held-there _ _ c.requires.1 _ _ _ _ c.lease_at.ensures c.is_held.ensures

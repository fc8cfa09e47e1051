use Rattle.host_store.proofs.Finds.{due-here}
use Rattle.host_store.proofs.is_due_at.Goals as goal

pub returns : goal.returns
returns c = due-here _ _ c.requires.1 _ _ _ _ c.lease_at.ensures c.active_at.ensures c.is_due.ensures

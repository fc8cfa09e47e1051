use Rattle.host_store.proofs.Finds.{forbidden-there}
use Rattle.host_store.proofs.is_forbidden_at.Goals as goal

pub returns : goal.returns
returns c = forbidden-there _ _ c.requires.1 _ _ _ c.active_at.ensures c.is_forbidden.ensures

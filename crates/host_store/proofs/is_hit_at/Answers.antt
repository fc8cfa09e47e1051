use Rattle.layout.specs.Layout.{runtime_in}
use Rattle.host_store.proofs.Finds.{hit-there}
use Rattle.host_store.proofs.is_hit_at.Goals as goal

pub returns : goal.returns
returns c = hit-there (runtime_in c.args.state.now).replay _ _ _ _ _ _ c.place_before.ensures.0 c.entry_at.ensures c.is_hit.ensures

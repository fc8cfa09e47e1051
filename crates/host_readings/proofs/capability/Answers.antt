use Rattle.host_readings.proofs.Showing.{capability-shows}
use Rattle.host_store.proofs.Finds.{count-few}
use Rattle.host_readings.proofs.capability.Goals as goal

pub place_or_spare-at-requires : goal.place_or_spare-at-requires
place_or_spare-at-requires c = count-few _ _ c.fixed_in-fixed.ensures

pub returns : goal.returns
returns c = capability-shows _ c.starting_in-starting.ensures c.args.index _ c.fixed_in-fixed.ensures c.place_or_spare-at.ensures.0 c.capability_at-capability.ensures c.capability_shown.ensures

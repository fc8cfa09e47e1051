use Rattle.layout.proofs.Fields.{index-headed}
use Rattle.host_readings.proofs.Showing.{snapshot-shows}
use Rattle.host_readings.proofs.snapshot.Goals as goal

pub retained_any-requires : goal.retained_any-requires
retained_any-requires c = index-headed _ c.index_in-index.ensures

pub returns : goal.returns
returns c = snapshot-shows _ c.starting_in-starting.ensures c.index_in-index.ensures _ c.fixed_in-fixed.ensures c.numbers_in-numbers.ensures c.retained_any.ensures c.snapshot_shown.ensures

use Rattle.layout.proofs.Fields.{index-headed}
use Rattle.host_readings.proofs.Showing.{count-shows}
use Rattle.host_readings.proofs.receipt_count.Goals as goal

pub retained_any-requires : goal.retained_any-requires
retained_any-requires c = index-headed _ c.index_in-index.ensures

pub returns : goal.returns
returns c = count-shows _ c.starting_in-starting.ensures c.index_in-index.ensures _ c.retained_any.ensures c.number_shown.ensures

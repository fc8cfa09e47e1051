use Rattle.layout.proofs.Fields.{index-headed}
use Rattle.host_readings.proofs.Showing.{receipt-shows}
use Rattle.host_readings.proofs.receipt.Goals as goal

pub noted_any-noted-requires : goal.noted_any-noted-requires
noted_any-noted-requires c = index-headed _ c.index_in-order.ensures

pub returns : goal.returns
returns c = receipt-shows _ c.starting_in-starting.ensures c.index_in-order.ensures c.args.index c.noted_any-noted.ensures c.rejected_at-rejected.ensures c.others_at-other.ensures c.slot_of.ensures c.slot_or_last-slot.ensures.0 c.receipt_at-receipt.ensures c.receipt_shown.ensures

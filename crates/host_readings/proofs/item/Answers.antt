use Rattle.host_readings.proofs.Showing.{carrying-low, item-seen}
use borrow.Author.Rules.{rules}
use Rattle.host_readings.proofs.item.Goals as goal

pub capability_at-capability-requires : goal.capability_at-capability-requires
capability_at-capability-requires c = (search rules, carrying-low _ _ c.carrying_in-carrying.ensures)

pub returns : goal.returns
returns c = item-seen _ c.waiting_in-waiting.ensures c.falling_in-falling.ensures c.carrying_in-carrying.ensures c.capability_at-capability.ensures c.submission_in-submission.ensures c.slot_in.ensures.0 c.receipt_at-receipt.ensures c.item_of.ensures

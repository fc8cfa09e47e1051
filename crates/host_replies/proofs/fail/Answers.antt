use Rattle.host_store.proofs.Placing.{recorded}
use native.Mathlib.Omega.{arith}
use Rattle.layout.proofs.Chains.{long_after}
use Rattle.host_replies.proofs.Replies.{carried-low, fails-on}
use Rattle.host_replies.proofs.fail.Goals as goal

pub capability_at-capability-requires : goal.capability_at-capability-requires
capability_at-capability-requires c = (c.requires, carried-low _ c.carrying_in-carrying.ensures)

pub place-slot-requires : goal.place-slot-requires
place-slot-requires c = c.requires

pub announce-requires : goal.announce-requires
announce-requires c = (long_after c.requires c.place-slot.ensures.same, c.place-slot.ensures.inside)

pub put_receipt-requires : goal.put_receipt-requires
put_receipt-requires c = (long_after (long_after c.requires c.place-slot.ensures.same) c.announce.ensures.same, c.place-slot.ensures.inside)

pub shape_of-state : goal.shape_of-state
shape_of-state c = omega (arith, c.place-slot.ensures.same.long, c.announce.ensures.same.long, c.put_receipt.ensures.same.long)

pub returns : goal.returns
returns c = fails-on _ _ _ c.fixed_in-fixed.ensures c.numbers_in-numbers.ensures c.carrying_in-carrying.ensures c.capability_at-capability.ensures c.submission_in-submission.ensures c.failed-receipt.ensures (recorded _ c.place-slot.ensures c.announce.ensures c.put_receipt.ensures)

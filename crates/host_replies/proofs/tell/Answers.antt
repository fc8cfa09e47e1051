use Rattle.host_store.proofs.Placing.{recorded}
use native.Mathlib.Omega.{arith}
use Rattle.layout.proofs.Chains.{long_after}
use Rattle.host_replies.proofs.Replies.{tells-on}
use Rattle.host_replies.proofs.tell.Goals as goal

pub place-slot-requires : goal.place-slot-requires
place-slot-requires c = long_after c.requires c.put_revoked.ensures.same

pub announce-requires : goal.announce-requires
announce-requires c = (long_after (long_after c.requires c.put_revoked.ensures.same) c.place-slot.ensures.same, c.place-slot.ensures.inside)

pub put_receipt-requires : goal.put_receipt-requires
put_receipt-requires c = (long_after (long_after (long_after c.requires c.put_revoked.ensures.same) c.place-slot.ensures.same) c.announce.ensures.same, c.place-slot.ensures.inside)

pub shape_of-state : goal.shape_of-state
shape_of-state c = omega (arith, c.put_revoked.ensures.same.long, c.place-slot.ensures.same.long, c.announce.ensures.same.long, c.put_receipt.ensures.same.long)

pub returns : goal.returns
returns c = tells-on _ _ c.fixed_in-fixed.ensures c.numbers_in-numbers.ensures c.falling_in-falling.ensures c.revoked_in-revoked.ensures c.told-receipt.ensures c.put_revoked.ensures (recorded _ c.place-slot.ensures c.announce.ensures c.put_receipt.ensures)

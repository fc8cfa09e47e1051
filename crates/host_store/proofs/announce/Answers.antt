use native.Mathlib.Omega.{arith}
use Rattle.layout.proofs.Chains.{long_after}
use Rattle.host_store.proofs.Placing.{announces}
use Rattle.host_store.proofs.announce.Goals as goal

pub put_next_receipt-requires : goal.put_next_receipt-requires
put_next_receipt-requires c = c.requires.0

pub put_waiting-requires : goal.put_waiting-requires
put_waiting-requires c = long_after c.requires.0 c.put_next_receipt.ensures.same

pub put_slot-requires : goal.put_slot-requires
put_slot-requires c = long_after (long_after c.requires.0 c.put_next_receipt.ensures.same) c.put_waiting.ensures.same

pub shape_of-state : goal.shape_of-state
shape_of-state c = omega (arith, c.put_next_receipt.ensures.same.long, c.put_waiting.ensures.same.long, c.put_slot.ensures.same.long)

pub returns : goal.returns
returns c = announces c.args.slot c.requires.1 c.numbers_in-numbers.ensures c.bump_counter.ensures c.recording.ensures c.put_next_receipt.ensures c.put_waiting.ensures c.put_slot.ensures

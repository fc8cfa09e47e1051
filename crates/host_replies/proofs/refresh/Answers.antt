use native.Mathlib.Omega.{arith}
use Rattle.layout.proofs.Chains.{long_after}
use Rattle.host_replies.proofs.Refreshes.{refresh-becomes}
use Rattle.host_replies.proofs.refresh.Goals as goal

pub put_numbers-requires : goal.put_numbers-requires
put_numbers-requires c = c.requires

pub put_waiting-requires : goal.put_waiting-requires
put_waiting-requires c = long_after c.requires c.put_numbers.ensures.same

pub shape_of-state : goal.shape_of-state
shape_of-state c = omega (arith, c.put_numbers.ensures.same.long, c.put_waiting.ensures.same.long)

pub returns : goal.returns
returns c = refresh-becomes c.numbers_in-numbers.ensures c.freshened.ensures c.awaiting.ensures c.put_numbers.ensures c.put_waiting.ensures

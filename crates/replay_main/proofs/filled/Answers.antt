use native.Mathlib.Omega.{arith}
use Rattle.replay_main.proofs.Orders.{none_yet, one_more, at_count}
use Rattle.replay_main.proofs.filled.Goals as goal

pub loop-id-init : goal.loop-id-init
loop-id-init c = record { within = omega arith; filled = none_yet c.empty-ring.ensures }

pub loop-id-preserved : goal.loop-id-preserved
loop-id-preserved c = record { within = omega arith; filled = at_count (omega arith) (one_more (omega arith) c.loop-id.invariant.filled c.push-ring.ensures) }

pub returns : goal.returns
returns c = at_count (omega arith) c.loop-id.invariant.filled

pub returns-2 : goal.returns-2
returns-2 c = at_count (omega arith) (one_more (omega arith) c.loop-id.invariant.filled c.push-ring.ensures)

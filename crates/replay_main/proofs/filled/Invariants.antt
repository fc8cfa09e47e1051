use Prim.Native.Nat.{◌+◌, ◌-◌, ◌≤◌}
use Rattle.replay_main.specs.Orders.{Filled}
use Rattle.replay_main.proofs.filled.Given as goal

abbrev pub invariant-loop-id : goal.invariant-loop-id
invariant-loop-id l = record { within : l.id ≤ l.last + 1; filled : Filled (l.id - 1) l.ring }

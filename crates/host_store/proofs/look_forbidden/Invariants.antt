use Prim.Native.Nat.{◌-◌}
use Rattle.layout.specs.Layout.{runtime_in}
use Rattle.host_store.specs.Looks.{forbidden_at}
use Rattle.host_store.proofs.Finds.{Seeks}
use Rattle.host_store.proofs.look_forbidden.Given as goal

abbrev pub invariant-loop-i : goal.invariant-loop-i
invariant-loop-i l = Seeks (runtime_in l.state) (forbidden_at (runtime_in l.state) l.flags) l.from l.i

abbrev pub decreases-loop-i : goal.decreases-loop-i
decreases-loop-i l = 8 - l.i

use Prim.Native.Nat.{◌-◌}
use Rattle.runtime.specs.Promises.{Good}
use Rattle.runtime.proofs.Looks.{SoonestTo}
use Rattle.layout.specs.Layout.{runtime_in}
use Rattle.host_store.proofs.look_soonest.Given as goal

abbrev pub invariant-loop-i : goal.invariant-loop-i
invariant-loop-i l = Good (runtime_in l.state) → SoonestTo l.soonest l.i (runtime_in l.state)

abbrev pub decreases-loop-i : goal.decreases-loop-i
decreases-loop-i l = 8 - l.i

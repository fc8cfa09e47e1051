use Prim.Native.Nat.{◌-◌}
use Rattle.host_start.proofs.Listings.{Copied}
use Rattle.host_start.proofs.copy_records.Given as goal

abbrev pub invariant-loop-i : goal.invariant-loop-i
invariant-loop-i l = Copied l.initial.state l.state l.i

abbrev pub decreases-loop-i : goal.decreases-loop-i
decreases-loop-i l = 17 - l.i

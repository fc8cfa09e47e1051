use Prim.Native.Nat.{◌-◌}
use Rattle.host_start.proofs.Listings.{Cleared}
use Rattle.host_start.proofs.clear.Given as goal

abbrev pub invariant-loop-i : goal.invariant-loop-i
invariant-loop-i l = Cleared l.initial.state l.state l.i

abbrev pub decreases-loop-i : goal.decreases-loop-i
decreases-loop-i l = 2220 - l.i

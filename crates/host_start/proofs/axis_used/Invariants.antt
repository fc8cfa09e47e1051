use Prim.Native.Nat.{◌-◌}
use mathlib.Core.Path.{◌≡◌}
use lib.ListN.{take, drop}
use Rattle.model.specs.Soundness.{axis_used}
use Rattle.layout.specs.Layout.{listing_in}
use Rattle.host_start.proofs.axis_used.Given as goal

abbrev pub invariant-loop-i : goal.invariant-loop-i
invariant-loop-i l = axis_used (take l.count (listing_in l.state).records) l.axis ≡ axis_used (drop l.i (take l.count (listing_in l.state).records)) l.axis

abbrev pub decreases-loop-i : goal.decreases-loop-i
decreases-loop-i l = l.count - l.i

use Prim.Native.Nat.{◌-◌}
use mathlib.Core.Path.{◌≡◌}
use lib.ListN.{take, drop}
use Rattle.model.specs.Soundness.{id_taken}
use Rattle.layout.specs.Layout.{listing_in}
use Rattle.host_start.proofs.id_taken.Given as goal

abbrev pub invariant-loop-i : goal.invariant-loop-i
invariant-loop-i l = id_taken (take l.count (listing_in l.state).records) l.id ≡ id_taken (drop l.i (take l.count (listing_in l.state).records)) l.id

abbrev pub decreases-loop-i : goal.decreases-loop-i
decreases-loop-i l = l.count - l.i

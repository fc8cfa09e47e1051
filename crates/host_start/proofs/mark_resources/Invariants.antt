use Prim.Native.Nat.{ℕ, ◌-◌, ◌<◌, ◌≤◌}
use mathlib.Core.Bool.{false}
use mathlib.Core.Path.{◌≡◌}
use lib.ListN.{length, get_or, take}
use Rattle.model.specs.Soundness.{axis_used}
use Rattle.layout.specs.Layout.{listing_in}
use Rattle.host_start.proofs.mark_resources.Given as goal

abbrev pub invariant-loop-i : goal.invariant-loop-i
invariant-loop-i l = (l.i ≤ 8) × (length l.marks ≡ 8) × ((axis : ℕ) → axis < l.i → get_or l.marks axis false ≡ axis_used (take l.count (listing_in l.state).records) axis)

abbrev pub decreases-loop-i : goal.decreases-loop-i
decreases-loop-i l = 8 - l.i

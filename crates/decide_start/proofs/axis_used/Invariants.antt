use Prim.Native.Nat.{◌-◌}
use mathlib.Core.Path.{◌≡◌}
use lib.ListN.{take, drop}
use Rattle.model.specs.Soundness.{axis_used}
use Rattle.decide_start.proofs.axis_used.Given as goal

abbrev pub invariant-loop-i : goal.invariant-loop-i
invariant-loop-i l = axis_used (take l.count l.list) l.axis ≡ axis_used (drop l.i (take l.count l.list)) l.axis

abbrev pub decreases-loop-i : goal.decreases-loop-i
decreases-loop-i l = l.count - l.i

use Rattle.runtime.proofs.Looks.{SoonestTo}
use Rattle.std.proofs.Common.{◌-◌}
use Rattle.runtime.proofs.look_soonest.Given as goal

abbrev pub invariant-loop-i : goal.invariant-loop-i
invariant-loop-i l = record { so_far : SoonestTo l.soonest l.i l.rt }

abbrev pub decreases-loop-i : goal.decreases-loop-i
decreases-loop-i l = 8 - l.i

use Rattle.runtime.proofs.Looks.{held_at}
use Rattle.state.specs.Axes.{first_from}
use Rattle.std.proofs.Common.{◌≡◌, ◌-◌, ◌≤◌}
use Rattle.runtime.proofs.look_held.Given as goal

abbrev pub invariant-loop-i : goal.invariant-loop-i
invariant-loop-i l = record { within : l.i ≤ 8; so_far : first_from (held_at l.rt l.owner l.lease_id) l.i ≡ first_from (held_at l.rt l.owner l.lease_id) 0 }

abbrev pub decreases-loop-i : goal.decreases-loop-i
decreases-loop-i l = 8 - l.i

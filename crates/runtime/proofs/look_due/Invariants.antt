use Rattle.runtime.proofs.Looks.{due_at}
use Rattle.state.specs.Axes.{first_from}
use Rattle.std.proofs.Common.{◌≡◌, ◌-◌, ◌≤◌}
use Rattle.runtime.proofs.look_due.Given as goal

abbrev pub invariant-loop-i : goal.invariant-loop-i
invariant-loop-i l = record { within : l.i ≤ 8; so_far : first_from (due_at l.rt l.time) l.i ≡ first_from (due_at l.rt l.time) l.from }

abbrev pub decreases-loop-i : goal.decreases-loop-i
decreases-loop-i l = 8 - l.i

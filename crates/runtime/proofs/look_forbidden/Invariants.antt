use Rattle.runtime.proofs.Looks.{forbidden_at}
use Rattle.state.specs.Axes.{first_from}
use Rattle.std.proofs.Common.{◌≡◌, ◌-◌, ◌≤◌}
use Rattle.runtime.proofs.look_forbidden.Given as goal

abbrev pub invariant-loop-i : goal.invariant-loop-i
invariant-loop-i l = record { within : l.i ≤ 8; so_far : first_from (forbidden_at l.rt l.flags) l.i ≡ first_from (forbidden_at l.rt l.flags) l.from }

abbrev pub decreases-loop-i : goal.decreases-loop-i
decreases-loop-i l = 8 - l.i

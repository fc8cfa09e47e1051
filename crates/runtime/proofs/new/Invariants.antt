use Rattle.std.proofs.Common.{◌-◌, ◌≤◌, take}
use Rattle.decide_start.specs.Starts.{Listing}
use Rattle.runtime.proofs.new.Given as goal

-- the first records are copied
abbrev pub invariant-loop-i : goal.invariant-loop-i
invariant-loop-i l = record { within : l.i ≤ l.count; so_far : Listing l.listed (take l.i l.list) }

abbrev pub decreases-loop-i : goal.decreases-loop-i
decreases-loop-i l = l.count - l.i

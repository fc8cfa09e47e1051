use Rattle.rules.specs.Admission.{find_entry}
use Rattle.runtime.proofs.Looks.{entries_from}
use Rattle.runtime.specs.Runtimes.{tables_in}
use Rattle.std.proofs.Common.{◌≡◌, ◌-◌}
use Rattle.runtime.proofs.look_replay.Given as goal

abbrev pub invariant-loop-i : goal.invariant-loop-i
invariant-loop-i l = record { so_far : find_entry l.owner l.action_id (entries_from l.rt l.i) ≡ find_entry l.owner l.action_id (tables_in l.rt).replay }

abbrev pub decreases-loop-i : goal.decreases-loop-i
decreases-loop-i l = 32 - l.i

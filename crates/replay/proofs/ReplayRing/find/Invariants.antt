use mathlib.Core.Path.{◌≡◌}
use lib.ListN.{drop}
use Rattle.rules.specs.Admission.{find_entry}
use Rattle.replay.specs.Ring.{entries_of, slots_of, list_of}
use Rattle.replay.proofs.ReplayRing.find.Given as goal

-- what is to be found stands in the slots that are left
abbrev pub invariant-loop-i : goal.invariant-loop-i
invariant-loop-i l = find_entry l.owner l.action_id (list_of l.self) ≡ find_entry l.owner l.action_id (entries_of (drop l.i (slots_of l.self)))

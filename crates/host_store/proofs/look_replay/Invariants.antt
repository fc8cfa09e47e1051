use Prim.Native.Nat.{◌-◌}
use mathlib.Core.Path.{◌≡◌}
use Rattle.rules.specs.Admission.{find_entry}
use Rattle.runtime.specs.Promises.{Good}
use Rattle.runtime.specs.Runtimes.{tables_in}
use Rattle.runtime.proofs.Looks.{entries_from}
use Rattle.layout.specs.Layout.{runtime_in}
use Rattle.host_store.proofs.look_replay.Given as goal

abbrev pub invariant-loop-i : goal.invariant-loop-i
invariant-loop-i l =
    Good (runtime_in l.state)
    → find_entry l.owner l.action_id (entries_from (runtime_in l.state) l.i) ≡ find_entry l.owner l.action_id (tables_in (runtime_in l.state)).replay

abbrev pub decreases-loop-i : goal.decreases-loop-i
decreases-loop-i l = 32 - l.i

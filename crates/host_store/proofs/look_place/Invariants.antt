use Prim.Native.Nat.{◌-◌}
use mathlib.Core.Path.{◌≡◌}
use Rattle.rules.specs.Admission.{with_id}
use Rattle.runtime.specs.Promises.{Good}
use Rattle.runtime.specs.Runtimes.{tables_in}
use Rattle.runtime.proofs.Looks.{records_from}
use Rattle.layout.specs.Layout.{runtime_in}
use Rattle.host_store.proofs.look_place.Given as goal

abbrev pub invariant-loop-i : goal.invariant-loop-i
invariant-loop-i l = Good (runtime_in l.state) → with_id l.id (records_from (runtime_in l.state) l.i) ≡ with_id l.id (tables_in (runtime_in l.state)).capabilities

abbrev pub decreases-loop-i : goal.decreases-loop-i
decreases-loop-i l = l.count - l.i

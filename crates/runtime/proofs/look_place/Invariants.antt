use Rattle.rules.specs.Admission.{with_id}
use Rattle.runtime.proofs.Looks.{records_from}
use Rattle.runtime.specs.Runtimes.{tables_in}
use Rattle.std.proofs.Common.{◌≡◌, ◌-◌}
use Rattle.runtime.proofs.look_place.Given as goal

abbrev pub invariant-loop-i : goal.invariant-loop-i
invariant-loop-i l = record { so_far : with_id l.id (records_from l.rt l.i) ≡ with_id l.id (tables_in l.rt).capabilities }

abbrev pub decreases-loop-i : goal.decreases-loop-i
decreases-loop-i l = (l.rt.fixed.count) - l.i

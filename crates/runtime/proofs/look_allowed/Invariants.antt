use Rattle.rules.specs.Admission.{allowed}
use Rattle.runtime.proofs.Looks.{records_from}
use Rattle.runtime.specs.Runtimes.{tables_in}
use Rattle.std.specs.Int.Bits.{bit_or}
use Rattle.std.proofs.Common.{◌≡◌, ◌-◌}
use Rattle.runtime.proofs.look_allowed.Given as goal

abbrev pub invariant-loop-i : goal.invariant-loop-i
invariant-loop-i l = record { so_far : bit_or l.mask (allowed (records_from l.rt l.i) l.axis) ≡ allowed (tables_in l.rt).capabilities l.axis }

abbrev pub decreases-loop-i : goal.decreases-loop-i
decreases-loop-i l = (l.rt.fixed.count) - l.i

use mathlib.Core.Path.{◌≡◌}
use lib.ListN.{length}
use Rattle.runtime.specs.Stages.{RuntimeSound}
use Rattle.layout.specs.Layout.{runtime_in}
use Rattle.wire_counters.proofs.run_records.Given as goal

abbrev pub invariant-loop-i : goal.invariant-loop-i
invariant-loop-i l = (length l.state ≡ 2464) × (RuntimeSound (runtime_in l.state) × (length l.output ≡ length l.initial.output))

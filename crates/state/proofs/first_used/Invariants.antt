use mathlib.Core.Path.{◌≡◌}
use Rattle.state.specs.Axes.{first_used}
use Rattle.state.proofs.first_used.Given as goal

abbrev pub invariant-loop-axis : goal.invariant-loop-axis
invariant-loop-axis l = first_used l.used l.from ≡ first_used l.used l.axis

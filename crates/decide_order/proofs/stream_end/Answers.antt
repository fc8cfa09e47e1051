use native.Mathlib.Omega.{arith}
use Rattle.rules.specs.Admission.{valid_until}
use Rattle.rules.specs.Rules.{stream_end}
use Rattle.decide_order.proofs.stream_end.Goals as goal

pub overflow_add-end : goal.overflow_add-end
unfolding valid_until
overflow_add-end c = record { fits = omega arith }

pub returns-then-end-lease : goal.returns-then-end-lease
unfolding stream_end valid_until
returns-then-end-lease c = omega arith

pub returns-else-end-lease : goal.returns-else-end-lease
unfolding stream_end valid_until
returns-else-end-lease c = omega arith

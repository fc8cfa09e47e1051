use borrow.Author.Tests.{eq-eqb, ne_eqb}
use native.Mathlib.Omega.{arith}
use lib.Bits.{and_le_r}
use Rattle.decide_lease.proofs.Numbers.{bit-of}
use Rattle.decide_lease.proofs.allowed_step.Goals as goal

pub overflow_cast-result : goal.overflow_cast-result
overflow_cast-result c = omega (arith, and_le_r c.args.capability.id 63)

pub overflow_shl-result : goal.overflow_shl-result
overflow_shl-result c = omega (arith, and_le_r c.args.capability.id 63)

pub returns-then-capability-axis : goal.returns-then-capability-axis
returns-then-capability-axis c = λ low. simp (eq-eqb _ _ c.if-capability-axis.true, bit-of _ low)

pub returns : goal.returns
returns c = λ low. simp (ne_eqb _ _ c.if-capability-axis.false)

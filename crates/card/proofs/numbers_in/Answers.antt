use borrow.Author.Rules.{rules}
use native.Mathlib.Omega.{arith}
use Rattle.card.specs.Wire.{wire_limits, wire_numbers}
use Rattle.card.proofs.Wire.{below}
use Rattle.card.proofs.numbers_in.Goals as goal

pub overflow_mul-result : goal.overflow_mul-result
unfolding wire_limits
overflow_mul-result c = omega (arith, below c.args.words c.requires 15 tt, below c.args.words c.requires 16 tt)

pub overflow_add-result : goal.overflow_add-result
unfolding wire_limits
overflow_add-result c = omega (arith, below c.args.words c.requires 15 tt, below c.args.words c.requires 16 tt)

pub overflow_mul-result-2 : goal.overflow_mul-result-2
unfolding wire_limits
overflow_mul-result-2 c = omega (arith, below c.args.words c.requires 17 tt, below c.args.words c.requires 18 tt)

pub overflow_add-result-2 : goal.overflow_add-result-2
unfolding wire_limits
overflow_add-result-2 c = omega (arith, below c.args.words c.requires 17 tt, below c.args.words c.requires 18 tt)

pub returns : goal.returns
unfolding wire_numbers
returns c = search rules

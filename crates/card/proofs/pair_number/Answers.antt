use borrow.Author.Rules.{rules}
use native.Mathlib.Omega.{arith}
use Rattle.card.proofs.Pairs.{pair-number-by, pair-number-fits}
use Rattle.card.proofs.pair_number.Goals as goal

pub overflow_mul-result : goal.overflow_mul-result
overflow_mul-result c = let k = pair-number-fits c.args.pair (search rules) (search rules) c.unsigned.ensures c.unsigned-2.ensures in omega (arith, k)

pub overflow_add-result : goal.overflow_add-result
overflow_add-result c = record { fits = pair-number-fits c.args.pair (search rules) (search rules) c.unsigned.ensures c.unsigned-2.ensures }

pub returns : goal.returns
returns c = pair-number-by c.args.pair (search rules) (search rules) c.unsigned.ensures c.unsigned-2.ensures

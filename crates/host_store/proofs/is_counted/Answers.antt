use native.Mathlib.Omega.{arith}
use lib.Count.{leading_le, ones-le}
use borrow.Author.Tests.{eqb-true, eq-eqb}
use Rattle.host_store.proofs.Counts.{counted-not, counted-by}
use Rattle.host_store.proofs.is_counted.Goals as goal

pub overflow_cast-zeros : goal.overflow_cast-zeros
overflow_cast-zeros c = omega (arith, leading_le 64 c.args.kinds)

pub overflow_add-zeros : goal.overflow_add-zeros
overflow_add-zeros c = omega (arith, leading_le 64 c.args.kinds)

pub returns-then-zeros-rejections-lt64 : goal.returns-then-zeros-rejections-lt64
returns-then-zeros-rejections-lt64 c = counted-not c.args.kinds c.args.rejections c.args.others (omega arith) c.if-zeros-rejections-lt64.true

pub overflow_cast-result : goal.overflow_cast-result
overflow_cast-result c = omega (arith, ones-le 64 c.args.kinds (omega arith))

pub returns : goal.returns
returns c = counted-by c.args.kinds c.args.rejections c.args.others _ (omega arith) c.if-zeros-rejections-lt64.false (eqb-true _ _) (eq-eqb _ _)

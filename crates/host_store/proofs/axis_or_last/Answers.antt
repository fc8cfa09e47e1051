use native.Mathlib.Omega.{arith}
use borrow.Author.Tests.{lt-ltb, le-ltb}
use Rattle.host_store.proofs.axis_or_last.Goals as goal

pub returns-then-axis-lt8 : goal.returns-then-axis-lt8
returns-then-axis-lt8 c = (rw (lt-ltb _ _ c.if-axis-lt8.true), omega (arith, c.if-axis-lt8.true))

pub returns-else-axis-lt8 : goal.returns-else-axis-lt8
returns-else-axis-lt8 c = (rw (le-ltb _ _ c.if-axis-lt8.false), omega arith)

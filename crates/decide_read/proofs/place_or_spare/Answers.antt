use native.Mathlib.Omega.{arith}
use borrow.Author.Tests.{lt-ltb, le-ltb}
use Rattle.decide_read.proofs.place_or_spare.Goals as goal

pub returns-then-index-count : goal.returns-then-index-count
returns-then-index-count c = (simp (lt-ltb _ _ c.if-index-count.true), omega (arith, c.if-index-count.true))

pub returns-else-index-count : goal.returns-else-index-count
returns-else-index-count c = (simp (le-ltb _ _ c.if-index-count.false), omega arith)

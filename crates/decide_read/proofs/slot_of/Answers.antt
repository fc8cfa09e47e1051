use borrow.Author.Tests.{lt-ltb, le-ltb}
use Rattle.decide_read.proofs.slot_of.Goals as goal

pub returns-then-noted-lt64 : goal.returns-then-noted-lt64
returns-then-noted-lt64 c = simp (lt-ltb _ _ c.if-noted-lt64.true)

pub returns-then-noted-lt64-2 : goal.returns-then-noted-lt64-2
returns-then-noted-lt64-2 c = simp (le-ltb _ _ c.if-noted-lt64.false, lt-ltb _ _ c.if-noted-lt64-2.true)

pub returns : goal.returns
returns c = simp (le-ltb _ _ c.if-noted-lt64.false, le-ltb _ _ c.if-noted-lt64-2.false)

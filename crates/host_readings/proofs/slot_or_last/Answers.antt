use native.Mathlib.Omega.{arith}
use borrow.Author.Tests.{lt-ltb, le-ltb}
use Rattle.host_readings.proofs.slot_or_last.Goals as goal

pub returns-then-slot-lt64 : goal.returns-then-slot-lt64
returns-then-slot-lt64 c = (rw (lt-ltb _ _ c.if-slot-lt64.true), omega (arith, c.if-slot-lt64.true))

pub returns-else-slot-lt64 : goal.returns-else-slot-lt64
returns-else-slot-lt64 c = (rw (le-ltb _ _ c.if-slot-lt64.false), omega arith)

use Prim.Native.Nat.{ℕ}
use mathlib.Core.Bool.{Bool, true, false}
use mathlib.Core.Path.{◌≡◌, refl}
use borrow.Author.Tests.{lt-ltb, le-ltb}
use lib.Dec.{ltb}
use Rattle.decide_start.specs.Starts.{is_started}
use Rattle.model.specs.declared.Receipt.{Receipt}
use Rattle.decide_read.specs.Shown.{presence_of, no_receipt_in, receipt_at}
use Rattle.decide_read.proofs.Runtimes.{told}
use Rattle.decide_read.proofs.receipt_shown.Goals as goal

past : (there : Bool) (x : ℕ) (y : Receipt) → ltb x 64 ≡ false → no_receipt_in (presence_of there) ≡ receipt_at there x y
past true x y e = rw e
past false x y e = refl

pub returns-in-Absent : goal.returns-in-Absent
returns-in-Absent c = simp (told c.args.starting.stage c.runtime_in-runtime.ensures, c.in-Absent.is, c.no_receipt.ensures)

pub returns-in-Present : goal.returns-in-Present
returns-in-Present c = simp (told c.args.starting.stage c.runtime_in-runtime.ensures, c.in-Present.is, lt-ltb _ _ c.if-slot-lt64.true)

pub returns : goal.returns
returns c = simp (c.no_receipt-2.ensures, c.runtime_in-runtime.ensures) (past (is_started c.args.starting.stage) _ _ (le-ltb _ _ c.if-slot-lt64.false))

use Prim.Native.Nat.{ℕ}
use mathlib.Core.Bool.{Bool, true, false}
use mathlib.Core.Path.{◌≡◌, refl}
use borrow.Author.Tests.{lt-ltb, le-ltb}
use lib.Dec.{ltb}
use Rattle.decide_start.specs.Starts.{is_started}
use Rattle.model.specs.declared.Capability.{Capability}
use Rattle.decide_read.specs.Shown.{presence_of, no_capability_in, capability_at}
use Rattle.decide_read.proofs.Runtimes.{told}
use Rattle.decide_read.proofs.capability_shown.Goals as goal

past : (there : Bool) (x : ℕ) (y : Capability) → ltb x 16 ≡ false → no_capability_in (presence_of there) ≡ capability_at there x y
past true x y e = rw e
past false x y e = refl

pub returns-in-Absent : goal.returns-in-Absent
returns-in-Absent c = simp (told c.args.starting.stage c.runtime_in-runtime.ensures, c.in-Absent.is, c.no_capability.ensures)

pub returns-in-Present : goal.returns-in-Present
returns-in-Present c = simp (told c.args.starting.stage c.runtime_in-runtime.ensures, c.in-Present.is, lt-ltb _ _ c.if-at-lt16.true)

pub returns : goal.returns
returns c = simp (c.no_capability-2.ensures, c.runtime_in-runtime.ensures) (past (is_started c.args.starting.stage) _ _ (le-ltb _ _ c.if-at-lt16.false))

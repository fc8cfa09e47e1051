use Prim.Native.Nat.{◌<◌}
use native.Mathlib.Numerals.{add-one}
use native.Mathlib.Omega.{arith}
use mathlib.Core.Path.{refl}
use borrow.Author.Rules.{rules}
use lib.ListN.{length, length-replicate}
use lib.Seq.{take-suc-set}
use Rattle.cells.specs.Cells.{part}
use Rattle.cells.proofs.Copies.{part-more}
use Rattle.cells.proofs.read.Goals as goal

pub loop-i-init : goal.loop-i-init
unfolding part
loop-i-init g c = (length-replicate _ _, refl)

pub loop-i-preserved : goal.loop-i-preserved
loop-i-preserved g c =
    let l = c.loop-i in
    let h : l.i < length l.words = omega arith in (search rules, rw (part-more, add-one, take-suc-set, l.invariant.1))

use borrow.Author.Rules.{rules}
use mathlib.Core.Path.{refl}
use native.Mathlib.Numerals.{add-one}
use native.Mathlib.Omega.{arith}
use Prim.Native.Nat.{◌<◌}
use lib.ListN.{length, length-replicate}
use lib.Seq.{take-suc-set}
use Rattle.words.specs.Words.{words_at}
use Rattle.words.proofs.Ends.{words_at-suc}
use Rattle.words.proofs.words_at.Goals as goal

pub loop-i-init : goal.loop-i-init
unfolding words_at
loop-i-init g c = (length-replicate _ _, refl)

pub loop-i-preserved : goal.loop-i-preserved
loop-i-preserved g c =
    let l = c.loop-i in
    let h : l.i < length l.words = omega arith in (search rules, rw (add-one, take-suc-set, words_at-suc, l.invariant.1, c.word.ensures))

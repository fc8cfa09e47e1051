use borrow.Author.Rules.{rules}
use Prim.Native.Nat.{◌<◌}
use mathlib.Core.Path.{◌≡◌, sym, ◌∙◌}
use native.Mathlib.Numerals.{add-one}
use native.Mathlib.Omega.{arith}
use lib.ListN.{length, length-take}
use lib.Seq.{take_all}
use Rattle.words.specs.Words.{bytes_of}
use Rattle.words.proofs.Over.{over-nil, over-over}
use Rattle.words.proofs.Ends.{length-bytes_of, bytes_of_suc}
use Rattle.words.proofs.put_words.Goals as goal

pub loop-word-init : goal.loop-word-init
unfolding bytes_of
loop-word-init g c = (search rules, search rules, sym (over-nil _ _))

pub loop-word-preserved : goal.loop-word-preserved
loop-word-preserved g c =
    let l = c.loop-word in
    let h : l.word-index < length c.args.words = omega arith in (
      omega arith,
      search rules,
      c.put_number.ensures
          ∙ rw (l.invariant.2, add-one, bytes_of_suc, l.invariant.0) (over-over _ _ _ _ _ (simp (length-bytes_of, length-take) (omega arith)) (omega arith)),
    )

pub returns : goal.returns
returns g c = let e : c.loop-word.word-index ≡ g.row.N = omega arith in cc (take_all g.row.N c.args.words (omega arith))

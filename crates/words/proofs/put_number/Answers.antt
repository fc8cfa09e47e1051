use Prim.Native.Nat.{ℕ, ◌+◌, ◌-◌, ◌%◌, ◌/◌, ◌<◌, ◌≤◌}
use native.Mathlib.Numerals.{add-one}
use native.Mathlib.Omega.{arith}
use mathlib.Core.List.{List, ◌++◌, append_assoc, append-nil}
use mathlib.Core.Path.{◌≡◌, sym, ◌∙◌}
use borrow.Author.Rules.{rules}
use borrow.Rule.Slice.PartMut.{put_mid}
use lib.ListN.{length, take, set}
use lib.Seq.{take_all, take-suc-set, drop-drop}
use Rattle.words.specs.Words.{little_end, over}
use Rattle.words.proofs.Ends.{length-little_end}
use Rattle.words.proofs.Numbers.{bytes-first}
use Rattle.words.proofs.put_number.Goals as goal

-- one byte more is written, and one fewer is left
byte-more : (s : List ℕ) (i w n : ℕ) → length s ≡ w → i < w → take (i + 1) (set s i (n % 256)) ++ little_end (w - (i + 1)) (n / 256) ≡ take i s ++ little_end (w - i) n
byte-more s i w n e h =
    let left : w - (i + 1) ≡ w - i - 1 = omega arith in
    rw (left, add-one, take-suc-set s i (n % 256) (omega arith), append_assoc, bytes-first (w - i) n (omega arith))

bytes-all : (s : List ℕ) (i w n : ℕ) (all : List ℕ) → length s ≡ w → w ≤ i → take i s ++ little_end (w - i) n ≡ all → s ≡ all
unfolding little_end
bytes-all s i w n all e h p =
    let none : w - i ≡ 0 = omega arith in sym (append-nil s) ∙ (rw (none, take_all i s (omega arith)) at p)

-- a part with the bytes in it is the bytes written over the whole
put_mid-over : (out : List ℕ) (at k : ℕ) (bs : List ℕ) → k ≡ length bs → put_mid at k out bs ≡ over out at bs
unfolding over
put_mid-over out at k bs e = rw (e, drop-drop)

pub loop-byte-preserved : goal.loop-byte-preserved
loop-byte-preserved c = let l = c.loop-byte in (search rules, byte-more l.byte-items l.byte-index c.args.width l.rest (omega arith) (omega arith) ∙ l.invariant.1)

pub returns : goal.returns
returns c =
    let l = c.loop-byte in
    let all = bytes-all l.byte-items l.byte-index c.args.width l.rest (little_end c.args.width c.args.number) l.invariant.0 (omega arith) l.invariant.1 in
    rw all
    (put_mid-over c.args.output.now c.args.at (c.args.at + c.args.width - c.args.at) (little_end c.args.width c.args.number)
    (omega (arith, length-little_end c.args.width c.args.number)))

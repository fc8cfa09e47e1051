use borrow.Author.Rules.{rules}
use Prim.Native.Nat.{ℕ}
use mathlib.Core.Path.{refl, sym, ◌∙◌}
use native.Mathlib.Omega.{arith}
use lib.ListN.{length-replicate, replicate}
use Rattle.wire.proofs.Rooms.{room}
use Rattle.wire.proofs.Zeros.{zero-at, zeros-sound}
use Rattle.wire_counters.proofs.Counters.{kept-length}
use Rattle.wire_counters.proofs.run_records.Goals as goal

pub loop-i-init : goal.loop-i-init
loop-i-init c = (length-replicate {A = ℕ} 2464 0, (zeros-sound (replicate 2464 0) (zero-at 2464), refl))

pub slice_bounds-step-end : goal.slice_bounds-step-end
slice_bounds-step-end c = sym c.loop-i.invariant.0

pub step-answer-requires : goal.step-answer-requires
step-answer-requires c = let l = c.loop-i.invariant in (omega (arith, l.0), l.1.0)

pub put_words-requires : goal.put_words-requires
put_words-requires c =
    let t = c.loop-i-test in
    let l = c.loop-i in
    let p = c.requires in
    (omega arith, room _ _ _ _ t.true p.1 l.invariant.1.1)

pub loop-i-preserved : goal.loop-i-preserved
loop-i-preserved c =
    let t = c.loop-i-test in
    let l = c.loop-i in
    let u = c.step-answer in
    let o = c.put_words in
    (u.ensures.0 ∙ l.invariant.0, (u.ensures.1, kept-length l.i c.args.output.now l.output _ u.result t.true c.requires.1 l.invariant.1.1 (search rules) o.ensures))

pub shape_of-output : goal.shape_of-output
shape_of-output c = c.loop-i.invariant.1.1

pub returns : goal.returns
returns c = c.loop-i.invariant.1.1

use borrow.Author.Rules.{rules}
use mathlib.Core.Path.{refl, sym}
use native.Mathlib.Omega.{arith}
use Rattle.wire.proofs.Answered.{ran-none, ran-more, ended}
use Rattle.wire.proofs.Rooms.{room, next-room}
use Rattle.wire.proofs.run_records.Goals as goal

pub loop-i-init : goal.loop-i-init
loop-i-init c = ran-none _ _ 2464 refl

pub slice_bounds-step-end : goal.slice_bounds-step-end
slice_bounds-step-end c = sym c.loop-i.invariant.long

pub step-answer-requires : goal.step-answer-requires
step-answer-requires c = let l = c.loop-i.invariant.long in omega (arith, l)

pub put_words-requires : goal.put_words-requires
put_words-requires c =
    let t = c.loop-i-test in
    let l = c.loop-i in
    let p = c.requires in
    (omega arith, room _ _ _ _ t.true p.1 l.invariant.same)

pub loop-i-preserved : goal.loop-i-preserved
loop-i-preserved c =
    let t = c.loop-i-test in
    let l = c.loop-i in
    let p = c.requires in
    let w = c.words_at-words in
    let u = c.step-answer in
    let o = c.put_words in
    ran-more l.invariant w.ensures u.result u.ensures (search rules) _ (next-room _ _ _ t.true p.1) o.ensures

pub shape_of-output : goal.shape_of-output
shape_of-output c = c.loop-i.invariant.same

pub returns : goal.returns
returns c =
    let l = c.loop-i in
    let t = c.loop-i-test in
    let e = ended l.invariant l.auto.i-end t.false in
    record { output_after = e.0; count_len = e.1 }

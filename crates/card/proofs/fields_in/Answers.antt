use Prim.Native.Nat.{◌<◌}
use mathlib.Core.Path.{◌≡◌, refl}
use native.Mathlib.Omega.{arith}
use lib.ListN.{length, drop, length-drop}
use Rattle.card.specs.Functions.{Reached}
use Rattle.card.proofs.Reading.{zeros}
use Rattle.card.proofs.Gathering.{begun, last-bits, last-bytes, last-sound}
use Rattle.card.proofs.fields_in.Goals as goal

pub read_two-requires : goal.read_two-requires
read_two-requires c = (omega arith, begun _ _ _ refl (zeros 22))

pub returns-then-map-ne0 : goal.returns-then-map-ne0
returns-then-map-ne0 c = last-bits _ _ _ _ c.in_ok-place-11.ensures c.if-map-ne0.true

pub returns-then-place-body : goal.returns-then-place-body
returns-then-place-body c =
    let r : Reached c.args.map c.args.body.now 22 c.in_ok-place-11.place c.read_two-11.new.numbers = c.in_ok-place-11.ensures in
    let h : 0 < length (drop c.in_ok-place-11.place c.args.body.now) = simp length-drop (omega (arith, c.if-place-body.true, r.within)) in
    last-bytes _ _ _ _ r c.if-map-ne0.false h

pub returns : goal.returns
returns c =
    let h : length (drop c.in_ok-place-11.place c.args.body.now) ≡ 0 = simp length-drop (omega (arith, c.if-place-body.false)) in
    last-sound _ _ _ _ c.in_ok-place-11.ensures c.if-map-ne0.false h

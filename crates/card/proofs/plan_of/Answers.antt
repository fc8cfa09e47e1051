use borrow.Author.Rules.{rules}
use Prim.Native.Nat.{◌+◌}
use mathlib.Core.Path.{◌≡◌, refl}
use native.Mathlib.Omega.{arith}
use lib.ListN.{length}
use Rattle.card.specs.Card.{widths, fields_of}
use Rattle.card.proofs.Turns.{passed-on, passed-off, size-on, size-off, shifted, bit-below, map-small, size_small, map-end, fields-end}
use Rattle.card.proofs.plan_of.Goals.{then-numbers-i-ne0, else-numbers-i-ne0}
use Rattle.card.proofs.plan_of.Goals as goal

pub overflow_add-map : goal.overflow_add-map
overflow_add-map c =
    let l = c.loop-i in
    let m : length c.args.numbers ≡ 22 = search rules in
    omega (arith, l.invariant.map, map-small c.args.numbers 0 m, shifted l.i (search rules), bit-below l.i (search rules))

pub overflow_add-length : goal.overflow_add-length
overflow_add-length c = omega (arith, c.loop-i.invariant.length, size_small c.args.numbers 0)

pub loop-i-preserved : goal.loop-i-preserved
loop-i-preserved c =
    let l = c.loop-i in
    let ns = c.args.numbers in
    let m : length ns ≡ 22 = search rules in
    elim c.if-numbers-i-ne0.branch [
      | then-numbers-i-ne0 w ↦
          record {
            map = rw (w.map-is, shifted l.i (search rules)) (passed-on ns m l.i _ refl (search rules) l.map l.invariant.map w.if-numbers-i-ne0.true);
            length = omega (arith, w.length-is, l.invariant.length, w.width-length.ensures.value, size-on ns m l.i _ refl (search rules) w.if-numbers-i-ne0.true);
          }
      | else-numbers-i-ne0 w ↦
          record {
            map = rw w.map-is (passed-off ns m l.i _ refl (search rules) l.map l.invariant.map (omega (arith, w.if-numbers-i-ne0.false)));
            length = omega (arith, w.length-is, l.invariant.length, size-off ns m l.i _ refl (search rules) (omega (arith, w.if-numbers-i-ne0.false)));
          }
    ]

pub returns : goal.returns
returns c =
    let l = c.loop-i in
    let ns = c.args.numbers in
    let m : length ns ≡ 22 = search rules in
    let i : l.i ≡ 22 = omega arith in
    let size : l.length ≡ 4 + length (fields_of widths ns) =
    omega (arith, rw (i, fields-end ns) at l.invariant.length) in
    record {
      map_is = omega (arith, rw (i, map-end ns m) at l.invariant.map);
      length-is = size;
      short = omega (arith, size, size_small ns 0);
    }

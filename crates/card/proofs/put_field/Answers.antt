use borrow.Author.Rules.{rules}
use mathlib.Core.Path.{◌≡◌, refl}
use native.Mathlib.Omega.{arith}
use lib.ListN.{length}
use Rattle.card.proofs.Turns.{fields-off, size-on, size-off, field-placed}
use Rattle.card.proofs.put_field.Goals as goal

pub returns-then-n-eq0 : goal.returns-then-n-eq0
returns-then-n-eq0 c =
    let a = c.args in
    let m : length a.numbers ≡ 22 = search rules in
    record {
      room = omega (arith, c.requires, size-off a.numbers m a.i _ refl (omega (arith, c.requires)) c.if-n-eq0.true);
      bytes = rw (← fields-off a.numbers m a.i _ refl (omega (arith, c.requires)) c.if-n-eq0.true);
    }

pub put_number-requires : goal.put_number-requires
put_number-requires c =
    let a = c.args in
    let m : length a.numbers ≡ 22 = search rules in
    omega (arith, c.requires, c.width-width.ensures.value, size-on a.numbers m a.i _ refl (omega (arith, c.requires)) c.if-n-eq0.false)

pub returns : goal.returns
returns c =
    let a = c.args in
    let m : length a.numbers ≡ 22 = search rules in
    let n = size-on a.numbers m a.i _ refl (omega (arith, c.requires)) c.if-n-eq0.false in
    record {
      room = omega (arith, c.requires, c.width-width.ensures.value, n, c.put_number.auto.output);
      bytes = rw c.put_number.ensures (field-placed a.numbers m a.i _ refl (omega (arith, c.requires)) a.card.now a.place _ c.width-width.ensures.value c.if-n-eq0.false c.requires.1);
    }

use Prim.Native.Nat.{◌+◌, ◌-◌, ◌<◌}
use mathlib.Core.Path.{◌≡◌, ap, ◌∙◌}
use native.Mathlib.Omega.{arith}
use lib.ListN.{length, take, drop, length-drop}
use Rattle.words.specs.Words.{little_number}
use Rattle.card.specs.Card.{field_in}
use Rattle.card.proofs.Reading.{field-missing, field-there}
use Rattle.card.proofs.field_at.Goals as goal

pub returns-then-width-eq0 : goal.returns-then-width-eq0
unfolding field_in
returns-then-width-eq0 c = simp c.if-width-eq0.true

pub returns-in_err-get : goal.returns-in_err-get
returns-in_err-get c =
    let l = c.in_err-get.ensures.lookup.0 in
    let h : length c.args.body.now < c.args.at + c.args.width = grind (arith, l) in
    c.from_residual.ensures ∙ field-missing _ (drop c.args.at c.args.body.now) c.if-width-eq0.false (simp length-drop (omega arith))

pub returns : goal.returns
returns c =
    let l = c.in_ok-get.ensures.lookup.0 in
    let e : (c.args.at + c.args.width) - c.args.at ≡ c.args.width = omega arith in
    let f = field-there c.args.width (drop c.args.at c.args.body.now) c.if-width-eq0.false (simp length-drop (omega (arith, l))) in
    let n : c.number-n.result ≡ little_number (take c.args.width (drop c.args.at c.args.body.now)) =
    c.number-n.ensures ∙ ap little_number (rw e at l.2) in
    c.then_some.ensures ∙ rw n f

use mathlib.Core.Path.{sym, ◌∙◌}
use native.Mathlib.Omega.{arith}
use Rattle.card.proofs.Reading.{fields-are, unframed, fieldless, with-fields}
use Rattle.card.proofs.Bytes.{bytes-from, bytes_drop}
use Rattle.card.proofs.FieldLaws.{fields-written}
use Rattle.card.proofs.receipt_in.Goals as goal

pub returns-then-not-is_framed : goal.returns-then-not-is_framed
returns-then-not-is_framed c = unframed _ _ _ (sym c.is_framed.ensures.value ∙ c.if-not-is_framed.true)

pub returns-in_err-numbers : goal.returns-in_err-numbers
returns-in_err-numbers c =
    let e = fields-are c.args.body.now c.number.ensures ∙ sym c.fields_in.ensures ∙ c.in_err-numbers.was in
    c.from_residual.ensures ∙ fieldless _ _ _ (sym c.is_framed.ensures.value ∙ c.if-not-is_framed.false) e

pub receipt_of-requires : goal.receipt_of-requires
receipt_of-requires c =
    let b = c.args.body.now in
    let e = fields-are b c.number.ensures ∙ sym c.fields_in.ensures ∙ c.in_ok-numbers.was in
    let o = bytes-from b (λ i. omega (arith, c.type_inv.body i)) in
    (fields-written _ _ _ _ (bytes_drop 4 b o) e).fit

pub returns : goal.returns
returns c =
    let e = fields-are c.args.body.now c.number.ensures ∙ sym c.fields_in.ensures ∙ c.in_ok-numbers.was in
    c.receipt_of.ensures ∙ with-fields _ _ _ (sym c.is_framed.ensures.value ∙ c.if-not-is_framed.false) e

use mathlib.Core.Path.{◌≡◌, sym, ap, subst⁻¹, ◌∙◌}
use Prim.Native.Nat.{ℕ}
use mathlib.Core.List.{List}
use mathlib.Core.Bool.{true}
use Rattle.card.specs.Card.{widths, receipt_of}
use Rattle.card.specs.Functions.{Fit}
use Rattle.card.specs.Wire.{wire_limits, within, wire_numbers}
use Rattle.card.proofs.Wire.{numbers_fit, uneven, beyond, inside}
use Rattle.card.proofs.receipt_at.Goals as goal

pub returns-then-bytes-ne192 : goal.returns-then-bytes-ne192
returns-then-bytes-ne192 c = uneven _ c.if-bytes-ne192.true

pub returns-then-not-are_within : goal.returns-then-not-are_within
returns-then-not-are_within c =
    let e = ap (λ (ws : List ℕ). within ws wire_limits) c.words_at-words.ensures in
    beyond _ c.if-bytes-ne192.false (sym (c.are_within.ensures ∙ e) ∙ c.if-not-are_within.true)

pub receipt_of-requires : goal.receipt_of-requires
receipt_of-requires c =
    let i : within c.words_at-words.result wire_limits ≡ true = sym c.are_within.ensures ∙ c.if-not-are_within.false in
    subst⁻¹ (Fit widths) c.numbers_in.ensures (numbers_fit _ i)

pub returns : goal.returns
returns c =
    let i : within c.words_at-words.result wire_limits ≡ true = sym c.are_within.ensures ∙ c.if-not-are_within.false in
    let e = ap (λ (ws : List ℕ). within ws wire_limits) c.words_at-words.ensures in
    let f = c.numbers_in.ensures ∙ ap wire_numbers c.words_at-words.ensures in
    c.receipt_of.ensures ∙ ap receipt_of f ∙ inside _ c.if-bytes-ne192.false (sym e ∙ i)

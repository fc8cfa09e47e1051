use mathlib.Core.List.{List}
use Prim.Native.Nat.{ℕ}
use mathlib.Core.Path.{◌≡◌, sym, ◌∙◌}
use lib.ListN.{drop}
use Rattle.words.specs.Words.{over}
use Rattle.words.proofs.Over.{over-nil}
use Rattle.card.specs.Card.{widths, fields_of}
use Rattle.card.proofs.Turns.{fields-end}
use Rattle.card.proofs.put_fields.Goals as goal

nothing_left : (card ns : List ℕ) (place : ℕ) → card ≡ over card place (fields_of (drop 22 widths) (drop 22 ns))
nothing_left card ns place = rw (fields-end ns) (sym (over-nil card place))

pub returns : goal.returns
returns c =
    nothing_left _ c.args.numbers _
    ∙ c.put_two.ensures.bytes
    ∙ c.put_two-place-10.ensures.bytes
    ∙ c.put_two-place-9.ensures.bytes
    ∙ c.put_two-place-8.ensures.bytes
    ∙ c.put_two-place-7.ensures.bytes
    ∙ c.put_two-place-6.ensures.bytes
    ∙ c.put_two-place-5.ensures.bytes
    ∙ c.put_two-place-4.ensures.bytes
    ∙ c.put_two-place-3.ensures.bytes
    ∙ c.put_two-place-2.ensures.bytes
    ∙ c.put_two-place.ensures.bytes

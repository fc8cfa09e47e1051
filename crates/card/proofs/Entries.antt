-- What stands at a place of a card, by the reader's tests. Assumes nothing.
use Prim.Native.Nat.{ℕ, ◌+◌, ◌-◌, ◌<◌, ◌≤◌}
use mathlib.Core.List.{List, ◌∷◌}
use Rattle.std.specs.Prelude.{Option, Some, None, Ok, Err}
use mathlib.Core.Path.{◌≡◌, sym, ap, ◌∙◌}
use native.Mathlib.Omega.{arith}
use borrow.Author.Tests.{le-leb, lt-leb}
use lib.ListN.{length, take, drop, get_or, length-drop, drop_of_length-le}
use lib.Seq.{drop-drop}
use Rattle.model.specs.declared.Receipt.{Receipt}
use Rattle.card.specs.declared.CardError.TheVariants as CardError
use Rattle.card.specs.Card.{receipt_in, judged, entry_in}
use Rattle.card.specs.Functions.{error_of, read_of, read_at}
use Rattle.card.proofs.Steps.{rest_at}

module _ (card : List ℕ) (at : ℕ) where
  pub at-end : length card ≤ at → Ok None ≡ read_at card at
  unfolding read_at read_of entry_in
  at-end h = rw (drop_of_length-le card {i = at} h)

  module _ (l : at < length card) where
    size : length (get_or card at 0 ∷ drop (at + 1) card) ≡ length card - at
    size = ap length (sym (rest_at card at l)) ∙ length-drop at card

    pub past_end : length card - at < get_or card at 0 + 3 → Err CardError.PastEnd ≡ read_at card at
    unfolding read_at read_of entry_in error_of
    past_end h =
        let k = lt-leb (get_or card at 0 + 3) (length (get_or card at 0 ∷ drop (at + 1) card)) (omega (arith, size)) in rw (rest_at card at l, k)

    module _ (k : get_or card at 0 + 3 ≤ length card - at) where
      abbrev o : Option Receipt
      o = receipt_in (get_or card at 0) (take (get_or card at 0) (drop (at + 1) card)) (take 2 (drop (get_or card at 0) (drop (at + 1) card)))

      entry-is : entry_in (drop at card) ≡ judged o (drop (get_or card at 0 + 2) (drop (at + 1) card))
      unfolding entry_in
      entry-is =
          let e = le-leb (get_or card at 0 + 3) (length (get_or card at 0 ∷ drop (at + 1) card)) (omega (arith, size)) in rw (rest_at card at l, e)

      -- what the code reads: the body and the last two bytes
      module _ {h : Option Receipt} (e : h ≡ receipt_in (get_or card at 0) (take (at + 1 + get_or card at 0 - (at + 1)) (drop (at + 1) card)) (take (at + 1 + get_or card at 0 + 2 - (at + 1 + get_or card at 0)) (drop (at + 1 + get_or card at 0) card))) where
        held : h ≡ o
        held =
            let a : at + 1 + get_or card at 0 - (at + 1) ≡ get_or card at 0 = omega arith in
            let b : at + 1 + get_or card at 0 + 2 - (at + 1 + get_or card at 0) ≡ 2 = omega arith in e ∙ rw (a, b, drop-drop)

        pub refused : h ≡ None → Err CardError.Unsound ≡ read_at card at
        unfolding read_at read_of judged error_of
        refused n = rw (entry-is, sym held ∙ n)

        pub accepted : (r : Receipt) (next : ℕ) → next ≡ at + get_or card at 0 + 3 → h ≡ Some r
            → Ok (Some (record { receipt = r; next = next })) ≡ read_at card at
        unfolding read_at read_of judged
        accepted r next q s = rw (entry-is, sym held ∙ s, q)

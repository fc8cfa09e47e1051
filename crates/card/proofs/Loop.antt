-- The loop over `read_at` reads what the file holds. Assumes nothing.
use Prim.Native.Nat.{ℕ, zero, suc, ◌+◌, ◌<◌, ◌≤◌}
use mathlib.Core.Bool.{Bool, true, false}
use mathlib.Core.List.{List, ◌∷◌}
use mathlib.Core.Path.{◌≡◌, refl, sym, ◌∙◌}
use native.Mathlib.Omega.{arith}
use borrow.Author.Tests.{ltb-true, ltb-false}
use lib.Dec.{ltb}
use lib.ListN.{length, drop, get_or, drop_of_length-le}
use lib.Seq.{drop-drop}
use Rattle.card.specs.Card.{Found, Ends, Accepts, Refuses, entry_in, Contents, onward, records_in, read_card}
use Rattle.card.specs.Functions.{error_number, error_of, read_of, read_at, onward_by, read_from, read_all}
use Rattle.card.proofs.Files.{records-skip}
use Rattle.card.proofs.Records.{error-number}
use Rattle.card.proofs.Steps.{rest_at}

-- one reading, where the later ones are right
turn : (at L : ℕ) (f : Found) (rest : ℕ → Contents) (later : Contents) → ((n : ℕ) → f ≡ Refuses n → error_number (error_of n) ≡ n)
    → rest (at + L + 3) ≡ later → onward_by (read_of at L f) rest ≡ onward f later
unfolding read_of onward_by onward
turn at L Ends rest later k e = refl
turn at L (Accepts r bs) rest later k e = rw e
turn at L (Refuses n) rest later k e = rw (k n refl)

-- one reading, at the end and before it
module _ (card : List ℕ) (at : ℕ) (rest : ℕ → Contents) where
  abbrev once : Contents
  once = onward_by (read_at card at) rest

  at-end : length card ≤ at → once ≡ records_in 0 (drop at card)
  unfolding read_at read_of onward_by entry_in records_in
  at-end h = rw (drop_of_length-le card {i = at} h)

  before-end : at < length card → rest (at + get_or card at 0 + 3) ≡ records_in 0 (drop (at + get_or card at 0 + 3) card) → once ≡ records_in 0 (drop at card)
  unfolding read_at records_in
  before-end h e =
      let k : at + 1 + (get_or card at 0 + 2) ≡ at + get_or card at 0 + 3 = omega arith in
      let s : records_in (get_or card at 0 + 2) (drop (at + 1) card) ≡ records_in 0 (drop (at + get_or card at 0 + 3) card) =
      records-skip (get_or card at 0 + 2) (drop (at + 1) card) ∙ rw (drop-drop, k) in
      rw (rest_at card at h) (turn at (get_or card at 0) (entry_in (get_or card at 0 ∷ drop (at + 1) card)) rest _ (error-number _) (e ∙ sym s))

-- from any place on, with as many readings as there are bytes left
pub from_place : (n : ℕ) (card : List ℕ) (at : ℕ) → length card ≤ at + n → read_from n card at ≡ records_in 0 (drop at card)
unfolding read_from records_in
from_place zero card at h = rw (drop_of_length-le card {i = at} (omega arith))
from_place (suc n) card at h = go (ltb at (length card)) refl (from_place n card (at + get_or card at 0 + 3) (omega arith))
  where
    go : (t : Bool) → ltb at (length card) ≡ t → read_from n card (at + get_or card at 0 + 3) ≡ records_in 0 (drop (at + get_or card at 0 + 3) card)
        → read_from (suc n) card at ≡ records_in 0 (drop at card)
    go true e f = before-end card at (read_from n card) (ltb-true at (length card) e) f
    go false e f = at-end card at (read_from n card) (ltb-false at (length card) e)

-- `has_head`, then `read_at` from 4 on at each `next`
pub the-loop : (card : List ℕ) → read_all card ≡ read_card card
unfolding read_all read_card
the-loop card = rw (from_place (length card) card 4 (omega arith))

-- What a writer answers and leaves. Assumes nothing.
use Prim.Native.Nat.{ℕ, ◌+◌, ◌≤◌, ◌<◌}
use mathlib.Core.Bool.{false}
use mathlib.Core.List.{List}
use mathlib.Core.Path.{◌≡◌, refl}
use native.Mathlib.Omega.{arith}
use borrow.Author.Tests.{le-leb, lt-leb}
use lib.ListN.{length}
use lib.Seq.{take_all}
use Rattle.std.specs.Prelude.{Some, None, unwrap_or}
use Rattle.words.specs.Words.{over}
use Rattle.card.specs.Card.{head, has_head}
use Rattle.card.specs.Functions.{has_room, written, counted, count}
use Rattle.card.proofs.Steps.{same-uneven}

module _ (card : List ℕ) (at : ℕ) (bs : List ℕ) where
  pub with-room : at + length bs ≤ length card → (Some (length bs) ≡ counted card at bs) × (over card at bs ≡ written card at bs)
  unfolding has_room written counted
  with-room h = let e = le-leb (at + length bs) (length card) h in (rw e, rw e)

  pub without-room : length card < at + length bs → (None ≡ counted card at bs) × (card ≡ written card at bs)
  unfolding has_room written counted
  without-room h = let e = lt-leb (at + length bs) (length card) h in (rw e, rw e)

  pub count-with : at + length bs ≤ length card → length bs ≡ count card at bs
  unfolding has_room counted count
  count-with h = let e = le-leb (at + length bs) (length card) h in rw e

-- a card that is shorter than the head has none
pub no-head : (card : List ℕ) → length card < 4 → has_head card ≡ false
unfolding has_head head
no-head card h = rw (take_all 4 card (omega arith)) (same-uneven card head (λ e. omega (arith, e)))

-- the count as a number
pub counted-or : (card : List ℕ) (at : ℕ) (bs : List ℕ) → unwrap_or (counted card at bs) 0 ≡ count card at bs
unfolding count
counted-or card at bs = refl

-- A receipt in words: what is within its fields, and the numbers of words. Assumes nothing.
use Prim.Native.Nat.{ℕ, zero, suc, ◌+◌, ◌*◌, ◌<◌, ◌≤◌, suc-le-suc}
use mathlib.Core.Bool.{true, false}
use mathlib.Core.List.{List, [], ◌∷◌}
use Rattle.std.specs.Prelude.{Option, Some, None, Result, Ok, Err}
use mathlib.Core.Path.{◌≡◌, refl}
use native.Mathlib.Omega.{arith}
use borrow.Author.Tests.{leb-true, eq-eqb, ne_eqb, lt-ltb, le-ltb}
use lib.Dec.{T, leb, ltb, lit<}
use lib.ListN.{length, drop, get_or}
use Rattle.std.specs.List.{list_all, zip}
use Rattle.model.proofs.Tests.{and_both}
use Rattle.model.specs.declared.Receipt.{Receipt}
use Rattle.words.specs.Words.{words_at, bytes_of, over}
use Rattle.words.proofs.Ends.{length-bytes_of}
use Rattle.card.specs.declared.CardError.{CardError}
use Rattle.card.specs.declared.Record.{Record}
use Rattle.card.specs.Card.{widths, receipt_of, Found, Ends, Accepts, Refuses, entry_in}
use Rattle.card.specs.Functions.{error_number, error_of, read_of, read_at, Fit}
use Rattle.card.specs.Wire.{wire_limits, within, wire_numbers, wire_words_from, wire_words, wire_receipt, head_answer, entry_answer, entry_read, wire_answer, wire_read}
use Rattle.card.proofs.Receipts.{◌and◌}
use Rattle.card.proofs.Records.{error-number}

-- within its limits ------------------------------------------------------------------------------------------------------

pub within-all : (ws ls : List ℕ) → list_all (λ (p : ℕ × ℕ). leb p.0 p.1) (zip ws ls) ≡ within ws ls
unfolding within
within-all [] ls = refl
within-all (w ∷ ws) [] = refl
within-all (w ∷ ws) (l ∷ ls) = rw (within-all ws ls)

pub at_most : (ws ls : List ℕ) (i : ℕ) → within ws ls ≡ true → i < length ls → get_or ws i 0 ≤ get_or ls i 0
unfolding within
at_most [] ls i e h = omega arith
at_most (w ∷ ws) [] i e h = absurd (omega arith)
at_most (w ∷ ws) (l ∷ ls) zero e h = leb-true w l (and_both (leb w l) (within ws ls) e).0
at_most (w ∷ ws) (l ∷ ls) (suc i) e h = at_most ws ls i (and_both (leb w l) (within ws ls) e).1 (omega arith)

-- so the numbers fit their fields ----------------------------------------------------------------------------------------

-- two halves
pair : {x y : ℕ} → x < 4294967296 → y < 4294967296 → x + 4294967296 * y < 18446744073709551616
pair h k = omega arith

module _ (ws : List ℕ) (e : within ws wire_limits ≡ true) where
  pub below : (i : ℕ) → T (ltb i 24) → get_or ws i 0 < suc (get_or wire_limits i 0)
  unfolding wire_limits
  below i t = suc-le-suc (at_most ws wire_limits i e (lit< t))

  pub numbers_fit : Fit widths (wire_numbers ws)
  unfolding widths wire_numbers wire_limits
  numbers_fit =
      below 0 tt
      and below 1 tt
      and below 2 tt
      and below 3 tt
      and below 4 tt
      and below 5 tt
      and below 6 tt
      and below 7 tt
      and below 8 tt
      and below 9 tt
      and below 10 tt
      and below 11 tt
      and below 12 tt
      and below 13 tt
      and below 14 tt
      and pair (below 15 tt) (below 16 tt)
      and pair (below 17 tt) (below 18 tt)
      and below 19 tt
      and below 20 tt
      and below 21 tt
      and below 22 tt
      and below 23 tt
      and tt

pub words_size : (r : Receipt) → length (bytes_of (wire_words r)) ≡ 192
unfolding wire_words wire_words_from
words_size r = length-bytes_of (wire_words r)

-- reading and writing in words -------------------------------------------------------------------------------------------

module _ (bs : List ℕ) where
  pub uneven : (length bs ≡ 192 → ⊥) → None ≡ wire_receipt bs
  unfolding wire_receipt
  uneven h = rw (ne_eqb (length bs) 192 h)

  pub beyond : length bs ≡ 192 → within (words_at 24 bs 0) wire_limits ≡ false → None ≡ wire_receipt bs
  unfolding wire_receipt
  beyond h e = rw (eq-eqb (length bs) 192 h, e)

  pub inside : length bs ≡ 192 → within (words_at 24 bs 0) wire_limits ≡ true → receipt_of (wire_numbers (words_at 24 bs 0)) ≡ wire_receipt bs
  unfolding wire_receipt
  inside h e = rw (eq-eqb (length bs) 192 h, e)

-- what a reading says
unfoldable pub answer_by : Result (Option Record) CardError → ℕ
answer_by (Ok (Some r)) = 0
answer_by (Ok None) = 1
answer_by (Err e) = error_number e

unfoldable pub read_by : Result (Option Record) CardError → List ℕ → List ℕ
read_by (Ok (Some r)) out = over out 0 (bytes_of (wire_words r.receipt))
read_by (Ok None) out = out
read_by (Err e) out = out

module _ (card : List ℕ) (at : ℕ) (out : List ℕ) where
  answered : {r : Result (Option Record) CardError} (L : ℕ) (f : Found) → ((n : ℕ) → f ≡ Refuses n → error_number (error_of n) ≡ n)
      → r ≡ read_of at L f → (answer_by r ≡ entry_answer f) × (read_by r out ≡ entry_read f out)
  unfolding answer_by read_by read_of entry_answer entry_read
  answered L Ends k e = (rw e, rw e)
  answered L (Accepts r rest) k e = (rw e, rw e)
  answered L (Refuses n) k e = (rw e (k n refl), rw e)

  pub at_head : at < 4 → (head_answer card ≡ wire_answer card at out) × (out ≡ wire_read card at out)
  unfolding wire_answer wire_read
  at_head h = let e = lt-ltb at 4 h in (rw e, rw e)

  pub too_short : 4 ≤ at → length out < 192 → (2 ≡ wire_answer card at out) × (out ≡ wire_read card at out)
  unfolding wire_answer wire_read
  too_short h l =
      let d = le-ltb at 4 h in
      let e = lt-ltb (length out) 192 l in (rw (d, e), rw (d, e))

  pub at-record : {r : Result (Option Record) CardError} → 4 ≤ at → 192 ≤ length out → r ≡ read_at card at
      → (answer_by r ≡ wire_answer card at out) × (read_by r out ≡ wire_read card at out)
  unfolding wire_answer wire_read read_at
  at-record h l q =
      let d = le-ltb at 4 h in
      let e = le-ltb (length out) 192 l in
      let a = answered (get_or card at 0) (entry_in (drop at card)) (error-number (drop at card)) q in (rw (d, e) a.0, rw (d, e) a.1)

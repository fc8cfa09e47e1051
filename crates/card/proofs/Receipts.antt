-- A receipt and its 22 numbers determine each other. Assumes nothing.
use Prim.Native.Nat.{ℕ, zero, suc, ◌+◌, ◌*◌, ◌/◌, ◌%◌, ◌<◌}
use mathlib.Core.Bool.{Bool, true, false}
use mathlib.Core.List.{List, [], ◌∷◌}
use Rattle.std.specs.Prelude.{Option, Some, None}
use Rattle.std.proofs.lemmas.Option.{none-some, same_Some}
use mathlib.Core.Path.{◌≡◌, refl, sym, subst}
use native.Mathlib.Omega.{arith}
use borrow.Author.Tests.{leb-true, leb-false}
use lib.Dec.{eqb, leb, ltb}
use lib.IntN.{ℤ}
use lib.ListN.{length, drop, get_or, drop_of_length-le}
use lib.Seq.{drop-cons}
use Rattle.model.specs.Decisions.{decision_number, decision_at}
use Rattle.model.specs.Reasons.{number, reason_at}
use Rattle.model.specs.declared.Decision.{Decision}
use Rattle.model.specs.declared.Reason.{Reason}
use Rattle.model.specs.declared.Receipt.{Receipt}
use Rattle.model.proofs.Decisions.{decision-number, number-decision}
use Rattle.model.proofs.Reasons.{reason-number, number-reason, reason-unknown}
use Rattle.words.specs.Signs.{unsigned}
use Rattle.words.proofs.Signs.{unsigned-below, signed-unsigned, unsigned_signed, signed-fits}
use Rattle.card.specs.Card.{widths, pair_number, pair_of, bit, numbers_of, nth, receipt_with, receipt_from, receipt_of}
use Rattle.card.specs.Claim.{Pair, pair, Fits}
use Rattle.card.specs.Functions.{Within, Fit}
use Rattle.card.proofs.FieldLaws.{fit_length, fit-nth}

-- pairs ------------------------------------------------------------------------------------------------------------------

pub pair-below : {zs : List ℤ} → Pair zs → pair_number zs < 18446744073709551616
unfolding pair_number
pair-below (pair {x} {y} f g) = omega (arith, unsigned-below x f, unsigned-below y g)

pub pair-number : {zs : List ℤ} → Pair zs → pair_of (pair_number zs) ≡ zs
unfolding pair_number pair_of
pair-number (pair {x} {y} f g) =
    let a = unsigned-below x f in
    let low : (unsigned x + 4294967296 * unsigned y) % 4294967296 ≡ unsigned x = omega arith in
    let high : (unsigned x + 4294967296 * unsigned y) / 4294967296 ≡ unsigned y = omega arith in
    rw (low, high, signed-unsigned x f, signed-unsigned y g)

module _ (n : ℕ) (h : n < 18446744073709551616) where
  low_half : n % 4294967296 < 4294967296
  low_half = omega arith

  high_half : n / 4294967296 < 4294967296
  high_half = omega arith

  pub pair_fits : Pair (pair_of n)
  unfolding pair_of
  pair_fits = pair (signed-fits (n % 4294967296) low_half) (signed-fits (n / 4294967296) high_half)

  pub number-pair : pair_number (pair_of n) ≡ n
  unfolding pair_number pair_of
  number-pair = rw (unsigned_signed (n % 4294967296) low_half, unsigned_signed (n / 4294967296) high_half) (omega arith)

-- yes/no fields ----------------------------------------------------------------------------------------------------------

bit_below : (t : Bool) → bit t < 2
unfolding bit
bit_below false = omega arith
bit_below true = omega arith

bit-number : (t : Bool) → eqb (bit t) 1 ≡ t
unfolding bit
bit-number false = refl
bit-number true = refl

number_bit : (n : ℕ) → n < 2 → bit (eqb n 1) ≡ n
unfolding bit
number_bit zero h = refl
number_bit (suc zero) h = refl
number_bit (suc (suc n)) h = absurd (omega arith)

-- from a receipt to its numbers and back ---------------------------------------------------------------------------------

decision-below : (d : Decision) → decision_number d < 256
unfolding decision_number
decision-below Decision.Executed = omega arith
decision-below Decision.Rejected = omega arith
decision-below Decision.Fallback = omega arith
decision-below Decision.Control = omega arith
decision-below Decision.Failed = omega arith

reason-below : (e : Reason) → number e < 65536
reason-below e = go (leb 28 (number e)) refl
  where
    go : (t : Bool) → leb 28 (number e) ≡ t → number e < 65536
    go true h =
        let k = reason-unknown (number e) (leb-true 28 (number e) h) in
        let z : ◌≡◌ {A = ℕ} 0 1 = cc (reason-number e) in
        omega arith
    go false h = omega (arith, leb-false 28 (number e) h)

infixr 20 ◌and◌
pub ◌and◌ : {A B : Type 0} → A → B → A × B
◌and◌ a b = (a, b)

pub numbers_fit : (r : Receipt) → Fits r → Fit widths (numbers_of r)
unfolding widths numbers_of
numbers_fit r f =
    f.boot_id
    and f.principal
    and f.safety_flags
    and f.receipt_id
    and f.action_id
    and f.sequence
    and f.capability
    and f.resource
    and f.lease_id
    and decision-below r.decision
    and reason-below r.reason
    and f.epoch
    and f.received_at
    and f.admitted_at
    and f.executed_at
    and pair-below f.requested
    and pair-below f.observed
    and f.pre_state
    and f.post_state
    and f.original_receipt
    and bit_below r.dispatched
    and bit_below r.observed_valid
    and tt

pub receipt-back : (r : Receipt) → Fits r → receipt_of (numbers_of r) ≡ Some r
unfolding receipt_of numbers_of receipt_from receipt_with
receipt-back r f =
    rw (decision-number r.decision, reason-number r.reason, pair-number f.requested, pair-number f.observed)
    (rw (bit-number r.dispatched, bit-number r.observed_valid))

-- from numbers to their receipt and back ---------------------------------------------------------------------------------

-- n numbers, from a place on
unfoldable pub from : ℕ → ℕ → List ℕ → List ℕ
from zero k ns = []
from (suc n) k ns = nth ns k ∷ from n (suc k) ns

pub from_all : (n k : ℕ) (ns : List ℕ) → length ns ≡ k + n → drop k ns ≡ from n k ns
unfolding from
from_all zero k ns l = drop_of_length-le ns {i = k} (omega arith)
from_all (suc n) k ns l = rw (drop-cons ns k 0 (omega arith), from_all n (suc k) ns (omega arith))

-- the receipt that was made of numbers
module _ (ns : List ℕ) (f : Fit widths ns) (d : Decision) (e : Reason) where
  at : (i : ℕ) → ltb i 22 ≡ true → Within (get_or widths i 0) (nth ns i)
  at i h = fit-nth ns f i h

  numbers-with : decision_number d ≡ nth ns 9 → number e ≡ nth ns 10 → numbers_of (receipt_with d e ns) ≡ ns
  unfolding numbers_of receipt_with from widths
  numbers-with p q =
      rw (p, q, number-pair (nth ns 15) (at 15 refl), number-pair (nth ns 16) (at 16 refl))
      (rw (number_bit (nth ns 20) (at 20 refl), number_bit (nth ns 21) (at 21 refl)) (sym (from_all 22 0 ns (fit_length widths ns f))))

  fits-with : Fits (receipt_with d e ns)
  unfolding receipt_with widths
  fits-with =
      record {
        boot_id = at 0 refl;
        principal = at 1 refl;
        safety_flags = at 2 refl;
        receipt_id = at 3 refl;
        action_id = at 4 refl;
        sequence = at 5 refl;
        capability = at 6 refl;
        resource = at 7 refl;
        lease_id = at 8 refl;
        epoch = at 11 refl;
        received_at = at 12 refl;
        admitted_at = at 13 refl;
        executed_at = at 14 refl;
        requested = pair_fits (nth ns 15) (at 15 refl);
        observed = pair_fits (nth ns 16) (at 16 refl);
        pre_state = at 17 refl;
        post_state = at 18 refl;
        original_receipt = at 19 refl;
      }

-- what a receipt of numbers says of them
pub record Made (ns : List ℕ) (r : Receipt) : Type 0 where
  pub fits : Fits r
  pub numbers : numbers_of r ≡ ns

pub made : (ns : List ℕ) (r : Receipt) → Fit widths ns → receipt_of ns ≡ Some r → Made ns r
unfolding receipt_of receipt_from
made ns r f h = go (decision_at (nth ns 9)) refl (reason_at (nth ns 10)) refl h
  where
    go : (d : Option Decision) → decision_at (nth ns 9) ≡ d → (e : Option Reason) → reason_at (nth ns 10) ≡ e → receipt_from d e ns ≡ Some r → Made ns r
    go (Some d) p (Some e) q h =
        let ds = number-decision (nth ns 9) d p in
        let es = number-reason (nth ns 10) e q in
        subst (Made ns) (same_Some (receipt_with d e ns) r h)
        (record { fits = fits-with ns f d e; numbers = numbers-with ns f d e ds es })
    go (Some d) p None q h = absurd (none-some r h)
    go None p e q h = absurd (none-some r h)

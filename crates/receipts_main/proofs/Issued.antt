-- The receipts issued, kept one after another, and the numbers that are left at the capacity.
-- Assumes nothing.
use Prim.Native.Nat.{ℕ, zero, suc, ◌+◌, ◌≤◌}
use native.Mathlib.Numerals.{add-one}
use native.Mathlib.Omega.{arith}
use mathlib.Core.Path.{◌≡◌, refl, ap, ◌∙◌}
use mathlib.Core.List.{List, [], ◌∷◌}
use lib.ListN.{length, length-append}
use borrow.Author.Tests.{lt-ltb}
use Rattle.std.specs.List.{slice_get}
use Rattle.model.specs.declared.Receipt.{Receipt}
use Rattle.rules.specs.Receipts.{keep, evict, drop_first_rejected, rejected, is_rejected}
use Rattle.receipts.specs.declared.Ring.{Ring}
use Rattle.receipts.specs.Rings.{receipts_of, Records}
use Rattle.receipts_main.specs.CaseG.{receipt_of, issued, with65, with66, number_of, Holds}

issued-length : (n : ℕ) → length (issued n) ≡ n
unfolding issued
issued-length zero = refl
issued-length (suc n) =
    length-append (issued n) (receipt_of (suc n) ∷ []) ∙ ap (λ (k : ℕ). k + 1) (issued-length n) ∙ add-one n

pub issued-more : (n m : ℕ) → n ≡ suc m → n ≤ 64 → keep 64 (issued m) (receipt_of n) ≡ issued n
unfolding keep issued
issued-more n m e h = rw (e, lt-ltb (length (issued m)) 64 (omega (arith, issued-length m)))

-- the numbers left
abbrev pub number : List Receipt → ℕ → ℕ
number l place = number_of (slice_get l place)

pub fifth : number (issued 64) 4 ≡ 5
unfolding issued receipt_of
fifth = refl

pub count65 : length with65 ≡ 64
unfolding issued receipt_of keep evict drop_first_rejected rejected is_rejected
count65 = refl

pub record After65 : Type 0 where
  pub first : number with65 0 ≡ 1
  pub before : number with65 3 ≡ 4
  pub after : number with65 4 ≡ 6
  pub last : number with65 63 ≡ 65
  pub past : number with65 64 ≡ 0

pub after65 : After65
unfolding issued receipt_of keep evict drop_first_rejected rejected is_rejected
after65 = record { first = refl; before = refl; after = refl; last = refl; past = refl }

pub record After66 : Type 0 where
  pub first : number with66 0 ≡ 2
  pub last : number with66 63 ≡ 66

pub after66 : After66
unfolding issued receipt_of keep evict drop_first_rejected rejected is_rejected
after66 = record { first = refl; last = refl }

-- one more, in a ring that keeps a list
pub holds_more : {before after : Ring} {l : List Receipt} {r s : Receipt} → Holds before l → r ≡ s → Records before r after → Holds after (keep 64 l s)
holds_more h e s = record { kept = s.kept; keeps = s.keeps ∙ rw (h.keeps, e) }

-- a check of the number at a place, in a ring that keeps a list
pub shown : {ring : Ring} {l : List Receipt} (place : ℕ) {n r : ℕ} → Holds ring l → number l place ≡ n → r ≡ number (receipts_of ring) place → r ≡ n
shown place h q e = e ∙ ap (λ (k : List Receipt). number k place) h.keeps ∙ q

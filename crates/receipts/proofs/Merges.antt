-- Two lists merged by kinds: one more at the end, what the rule drops, and the element at a place. Over any capacity.
-- Assumes nothing.
use Prim.Native.Nat.{ℕ, zero, suc, ◌+◌, ◌-◌, ◌<◌, ◌≤◌}
use native.Mathlib.Nat.{not-suc-le-zero, le_of_suc-le-suc, suc-sub-suc}
use native.Mathlib.Omega.{arith}
use mathlib.Core.Path.{◌≡◌, refl, ap}
use mathlib.Core.Bool.{Bool, true, false, cond, ◌||◌, true≢false, false≢true}
use mathlib.Core.List.{List, [], ◌∷◌, ◌++◌, map}
use lib.ListN.{length, get_or, take, replicate}
use Rattle.std.specs.List.{slice_get}
use Rattle.model.specs.declared.Receipt.{Receipt}
use Rattle.model.specs.Lists.{any}
use Rattle.rules.specs.Receipts.{rejected, drop_first_rejected, evict}
use Rattle.receipts.specs.Orders.{All, merge, trues}
use Rattle.receipts.proofs.KindBits.{without_first}

trues-le : (bs : List Bool) → trues bs ≤ length bs
trues-le [] = omega arith
trues-le (true ∷ bs) = let h = trues-le bs in omega arith
trues-le (false ∷ bs) = let h = trues-le bs in omega arith

-- the kinds tell the two lengths
pub record Told (bs : List Bool) (rs os : List ℕ) : Type 0 where
  pub rejections : trues bs ≡ length rs
  pub all : length bs ≡ length rs + length os

module _ (bs : List Bool) (rs os : List ℕ) where
  told-rejection : (r : ℕ) → Told (true ∷ bs) (r ∷ rs) os → Told bs rs os
  told-rejection r t = record { rejections = omega arith; all = omega arith }

  told-other : (o : ℕ) → Told (false ∷ bs) rs (o ∷ os) → Told bs rs os
  told-other o t = record { rejections = t.rejections; all = omega arith }

  no-rejection : Told (true ∷ bs) [] os → ⊥
  no-rejection t = let h = t.rejections in omega arith

  no_other : Told (false ∷ bs) rs [] → ⊥
  no_other t = let h = trues-le bs in omega arith

pub merge-length : (bs : List Bool) (rs os : List ℕ) → Told bs rs os → length (merge bs rs os) ≡ length bs
merge-length [] rs os t = refl
merge-length (true ∷ bs) [] os t = absurd (no-rejection bs [] os t)
merge-length (true ∷ bs) (r ∷ rs) os t = ap suc (merge-length bs rs os (told-rejection bs rs os r t))
merge-length (false ∷ bs) rs [] t = absurd (no_other bs rs [] t)
merge-length (false ∷ bs) rs (o ∷ os) t = ap suc (merge-length bs rs os (told-other bs rs os o t))

-- one more at the end ------------------------------------------------------------------------------------------------

pub merge-rejection : (bs : List Bool) (rs os : List ℕ) (x : ℕ) → Told bs rs os → merge (bs ++ (true ∷ [])) (rs ++ (x ∷ [])) os ≡ merge bs rs os ++ (x ∷ [])
merge-rejection [] [] os x t = refl
merge-rejection [] (r ∷ rs) os x t = absurd (let h = t.rejections in omega arith)
merge-rejection (true ∷ bs) [] os x t = absurd (no-rejection bs [] os t)
merge-rejection (true ∷ bs) (r ∷ rs) os x t = ap (λ (l : List ℕ). r ∷ l) (merge-rejection bs rs os x (told-rejection bs rs os r t))
merge-rejection (false ∷ bs) rs [] x t = absurd (no_other bs rs [] t)
merge-rejection (false ∷ bs) rs (o ∷ os) x t = ap (λ (l : List ℕ). o ∷ l) (merge-rejection bs rs os x (told-other bs rs os o t))

pub merge-other : (bs : List Bool) (rs os : List ℕ) (x : ℕ) → Told bs rs os → merge (bs ++ (false ∷ [])) rs (os ++ (x ∷ [])) ≡ merge bs rs os ++ (x ∷ [])
merge-other [] rs [] x t = refl
merge-other [] rs (o ∷ os) x t = absurd (let h = t.all in omega arith)
merge-other (true ∷ bs) [] os x t = absurd (no-rejection bs [] os t)
merge-other (true ∷ bs) (r ∷ rs) os x t = ap (λ (l : List ℕ). r ∷ l) (merge-other bs rs os x (told-rejection bs rs os r t))
merge-other (false ∷ bs) rs [] x t = absurd (no_other bs rs [] t)
merge-other (false ∷ bs) rs (o ∷ os) x t = ap (λ (l : List ℕ). o ∷ l) (merge-other bs rs os x (told-other bs rs os o t))

-- what the rule drops ------------------------------------------------------------------------------------------------

module _ (f : ℕ → Receipt) where
  abbrev pub Rejections : List ℕ → Type 0
  Rejections l = All (λ s. rejected (f s) ≡ true) l

  abbrev pub Others : List ℕ → Type 0
  Others l = All (λ s. rejected (f s) ≡ false) l

  module _ (r : ℕ) (rs : List ℕ) (hit : rejected (f r) ≡ true) where
    merge-any : (bs : List Bool) (os : List ℕ) → 0 < trues bs → any rejected (map f (merge bs (r ∷ rs) os)) ≡ true
    merge-any [] os h = absurd (not-suc-le-zero h)
    merge-any (true ∷ bs) os h = rw hit
    merge-any (false ∷ bs) [] h = merge-any bs [] h
    merge-any (false ∷ bs) (o ∷ os) h = rw (merge-any bs os h) (either (rejected (f o)))
      where
        either : (b : Bool) → (b || true) ≡ true
        either true = refl
        either false = refl

    merge-first : (bs : List Bool) (os : List ℕ) → Others os → map f (merge (without_first bs) rs os) ≡ drop_first_rejected (map f (merge bs (r ∷ rs) os))
    unfolding drop_first_rejected
    merge-first [] os a = refl
    merge-first (true ∷ bs) os a = rw hit
    merge-first (false ∷ bs) [] a = merge-first bs [] tt
    merge-first (false ∷ bs) (o ∷ os) a = rw a.0 (ap (λ (l : List Receipt). f o ∷ l) (merge-first bs os a.1))

    -- the oldest rejection
    pub merge-drop : (bs : List Bool) (os : List ℕ) → 0 < trues bs → Others os → map f (merge (without_first bs) rs os) ≡ evict (map f (merge bs (r ∷ rs) os))
    unfolding evict
    merge-drop bs os h a = rw (merge-any bs os h) (merge-first bs os a)

  none_any : (c : ℕ) (os : List ℕ) → Others os → any rejected (map f (merge (replicate c false) [] os)) ≡ false
  none_any zero os a = refl
  none_any (suc c) [] a = none_any c [] tt
  none_any (suc c) (o ∷ os) a = rw a.0 (none_any c os a.1)

  -- the oldest, where no rejection is kept
  pub merge-oldest : (c o : ℕ) (os : List ℕ) → Others (o ∷ os) → map f (merge (replicate c false) [] os) ≡ evict (map f (merge (replicate (suc c) false) [] (o ∷ os)))
  unfolding evict
  merge-oldest c o os a = rw (none_any (suc c) (o ∷ os) a)

-- the element at a place: how many of its kind stand before it -------------------------------------------------------

pub trues-take : (at : ℕ) (bs : List Bool) → trues (take at bs) ≤ at
trues-take zero bs = omega arith
trues-take (suc at) [] = omega arith
trues-take (suc at) (true ∷ bs) = let h = trues-take at bs in omega arith
trues-take (suc at) (false ∷ bs) = let h = trues-take at bs in omega arith

pub before-true : (bs : List Bool) (at : ℕ) → at < length bs → get_or bs at false ≡ true → trues (take at bs) < trues bs
before-true [] at h e = absurd (not-suc-le-zero h)
before-true (true ∷ bs) zero h e = omega arith
before-true (false ∷ bs) zero h e = absurd (false≢true e)
before-true (true ∷ bs) (suc at) h e = let i = before-true bs at (le_of_suc-le-suc h) e in omega arith
before-true (false ∷ bs) (suc at) h e = before-true bs at (le_of_suc-le-suc h) e

pub before-false : (bs : List Bool) (at : ℕ) → at < length bs → get_or bs at false ≡ false → at + trues bs < length bs + trues (take at bs)
before-false [] at h e = absurd (not-suc-le-zero h)
before-false (true ∷ bs) zero h e = absurd (true≢false e)
before-false (false ∷ bs) zero h e = let i = trues-le bs in omega arith
before-false (true ∷ bs) (suc at) h e = let i = before-false bs at (le_of_suc-le-suc h) e in omega arith
before-false (false ∷ bs) (suc at) h e = let i = before-false bs at (le_of_suc-le-suc h) e in omega arith

pub merge-at : (bs : List Bool) (rs os : List ℕ) (at : ℕ) → Told bs rs os → at < length bs
    → slice_get (merge bs rs os) at ≡ cond (get_or bs at false) (slice_get rs (trues (take at bs))) (slice_get os (at - trues (take at bs)))
merge-at [] rs os at t h = absurd (not-suc-le-zero h)
merge-at (true ∷ bs) [] os at t h = absurd (no-rejection bs [] os t)
merge-at (true ∷ bs) (r ∷ rs) os zero t h = refl
merge-at (true ∷ bs) (r ∷ rs) os (suc at) t h =
    rw (suc-sub-suc at (trues (take at bs))) (merge-at bs rs os at (told-rejection bs rs os r t) (le_of_suc-le-suc h))
merge-at (false ∷ bs) rs [] at t h = absurd (no_other bs rs [] t)
merge-at (false ∷ bs) rs (o ∷ os) zero t h = refl
merge-at (false ∷ bs) rs (o ∷ os) (suc at) t h =
    let e : suc at - trues (take at bs) ≡ suc (at - trues (take at bs)) = omega (arith, trues-take at bs) in
    rw e (merge-at bs rs os at (told-other bs rs os o t) (le_of_suc-le-suc h))

-- How often a slot stands in a list, and a store in a slot that does not stand there. Over any capacity.
-- Assumes nothing.
use Prim.Native.Nat.{ℕ, zero, suc, ◌+◌, ◌<◌, ◌≤◌}
use native.Mathlib.Nat.{not-suc-le-zero, le_of_suc-le-suc}
use native.Mathlib.Omega.{arith}
use mathlib.Core.Path.{◌≡◌, refl, ap}
use mathlib.Core.Logic.{◌≢◌, ⊎_elim}
use mathlib.Core.Bool.{Bool, true, false}
use mathlib.Core.List.{List, [], ◌∷◌, ◌++◌, map}
use lib.Dec.{eqb, ltb}
use lib.ListN.{length, get_or, set}
use lib.Seq.{get_or-set_other}
use borrow.Author.Tests.{eq-eqb, ne_eqb, lt-ltb, le-ltb}
use Rattle.receipts.specs.Orders.{All, merge, one, times}
use Rattle.receipts.proofs.Circles.{lt-or-ge}

times-append : (s : ℕ) (xs ys : List ℕ) → times s (xs ++ ys) ≡ times s xs + times s ys
times-append s [] ys = omega arith
times-append s (x ∷ xs) ys = omega (arith, times-append s xs ys)

pub times-self : (s : ℕ) → one (eqb s s) ≡ 1
times-self s = rw (eq-eqb s s refl)

apart : (s x : ℕ) → one (eqb s x) ≡ 0 → x ≢ s
apart s x h e = omega (arith, times-self s, h, ap (λ (k : ℕ). one (eqb s k)) e)

pub times_snoc : (s : ℕ) (xs : List ℕ) (x : ℕ) → times s (xs ++ (x ∷ [])) ≡ times s xs + times s (x ∷ [])
times_snoc s xs x = times-append s xs (x ∷ [])

-- a list holds what stands at its places
pub times-at : (xs : List ℕ) (k : ℕ) → k < length xs → 0 < times (get_or xs k 0) xs
times-at [] k h = absurd (not-suc-le-zero h)
times-at (x ∷ xs) zero h = omega (arith, times-self x)
times-at (x ∷ xs) (suc k) h = let i = times-at xs k (le_of_suc-le-suc h) in omega arith

pub times-merge : (s : ℕ) (bs : List Bool) (rs os : List ℕ) → times s (merge bs rs os) ≤ times s rs + times s os
times-merge s [] rs os = omega arith
times-merge s (true ∷ bs) [] os = times-merge s bs [] os
times-merge s (true ∷ bs) (r ∷ rs) os = let i = times-merge s bs rs os in omega arith
times-merge s (false ∷ bs) rs [] = times-merge s bs rs []
times-merge s (false ∷ bs) rs (o ∷ os) = let i = times-merge s bs rs os in omega arith

pub one-le : (b : Bool) → one b ≤ 1
one-le true = omega arith
one-le false = omega arith

-- slots below a count
module _ (s n : ℕ) where
  pub below_of : 0 < one (ltb s n) → s < n
  below_of h = ⊎_elim (λ (l : s < n). l) (λ (g : n ≤ s). absurd (omega (arith, ap one (le-ltb s n g)))) (lt-or-ge s n)

  pub below_more : one (ltb s n) + one (eqb s n) ≡ one (ltb s (suc n))
  below_more =
      ⊎_elim
      (λ (l : s < n). rw (lt-ltb s n l, ne_eqb s n (λ e. omega arith), lt-ltb s (suc n) (omega arith)))
      (λ (g : n ≤ s).
      rw (le-ltb s n g)
      (⊎_elim
      (λ (l : s < suc n). rw (eq-eqb s n (omega arith), lt-ltb s (suc n) l))
      (λ (m : suc n ≤ s). rw (ne_eqb s n (λ e. omega arith), le-ltb s (suc n) m))
      (lt-or-ge s (suc n))))
      (lt-or-ge s n)

module _ {A : Type 0} (d : A) (xs : List A) (s : ℕ) (x : A) where
  stored_other : (k : ℕ) → one (eqb s k) ≡ 0 → get_or (set xs s x) k d ≡ get_or xs k d
  stored_other k h = get_or-set_other xs s k x d (apart s k h)

  pub stored-map : (l : List ℕ) → times s l ≡ 0 → map (λ k. get_or (set xs s x) k d) l ≡ map (λ k. get_or xs k d) l
  stored-map [] h = refl
  stored-map (k ∷ l) h = rw (stored_other k (omega arith), stored-map l (omega arith))

  pub stored-all : (P : A → Type 0) (l : List ℕ) → times s l ≡ 0 → All (λ k. P (get_or xs k d)) l → All (λ k. P (get_or (set xs s x) k d)) l
  stored-all P [] h a = tt
  stored-all P (k ∷ l) h a = (rw (stored_other k (omega arith)) a.0, stored-all P l (omega arith) a.1)

pub all_snoc : {A : Type 0} (P : A → Type 0) (xs : List A) (x : A) → All P xs → P x → All P (xs ++ (x ∷ []))
all_snoc P [] x a p = (p, tt)
all_snoc P (y ∷ xs) x a p = (a.0, all_snoc P xs x a.1 p)

-- Indices and counters of tables. Assumes nothing.
use native.Mathlib.Omega.{arith}
use borrow.Author.Tests.{eq-eqb, ne_eqb}
use lib.Dec.{T, eqb, leb, ltb, ltb→lt, leb→le}
use Prim.Native.Nat.{ℕ, zero, suc, ◌+◌, ◌-◌, ◌<◌, ◌≤◌, ◌^◌}
use mathlib.Core.Bool.{Bool, true, false, not}
use mathlib.Core.Path.{◌≡◌, ap, ◌∙◌, refl, subst, sym}
use mathlib.Core.List.{List, [], ◌∷◌}
use lib.ListN.{length, get_or, set}
use native.Mathlib.Nat.{le_trans, le_of_suc-le-suc, not-suc-le-zero}

pub up_to : (n m a : ℕ) → T (leb n m) → a < n → a < m
up_to n m a t less = le_trans less (leb→le n m t)

pub step_fits : (n m a : ℕ) → T (ltb n m) → a < n → a + 1 < m
step_fits n m a t less = omega (arith, less, ltb→lt n m t)

pub step-within : (n a : ℕ) → a < n → a + 1 ≤ n
step-within n a less = omega (arith, less)

pub step-nearer : (n a : ℕ) → a < n → n - (a + 1) < n - a
step-nearer n a less = omega (arith, less)

pub below_next : (n a : ℕ) → a ≤ n → a < n + 1
below_next n a within = omega (arith, within)

pub none-up : (n : ℕ) → 0 ≤ n
none-up n = omega arith

-- a slot's number is a byte
pub below-byte : (a : ℕ) → a < 64 → a < 2 ^ 8
below-byte a less = omega (arith, less)

-- what a branch on a promised test says
pub holds : {a b : Bool} → a ≡ b → a ≡ true → T b
holds e t = subst T (sym (sym e ∙ t)) tt

pub fails : {a b : Bool} → a ≡ b → a ≡ false → T (not b)
fails e t = subst (λ (b : Bool). T (not b)) (sym (sym e ∙ t)) tt

pub bears : {a b : Bool} → a ≡ b → a ≡ true → T (not (not b))
bears e t = subst (λ (b : Bool). T (not (not b))) (sym (sym e ∙ t)) tt

-- within a table, what stands past its end is of no account
pub same_at : {A : Type 0} (d e : A) (xs : List A) (k : ℕ) → k < length xs → get_or xs k d ≡ get_or xs k e
same_at d e [] k h = absurd (not-suc-le-zero h)
same_at d e (x ∷ xs) zero h = refl
same_at d e (x ∷ xs) (suc k) h = same_at d e xs k (le_of_suc-le-suc h)

-- two numbers that a test told apart, or found the same
pub apart : (a b : ℕ) → (a ≡ b → ⊥) → T (not (eqb a b))
apart a b e = subst (λ (t : Bool). T (not t)) (sym (ne_eqb a b e)) tt

pub meet : (a b : ℕ) → a ≡ b → T (not (not (eqb a b)))
meet a b e = subst (λ (t : Bool). T (not (not t))) (sym (eq-eqb a b e)) tt

-- past its end a table is not altered, and what is read there is of no account where it tells the same
pub set_any : {A : Type 0} (f : A → A) (d e : A) (xs : List A) (k : ℕ) → set xs k (f (get_or xs k d)) ≡ set xs k (f (get_or xs k e))
set_any f d e [] k = refl
set_any f d e (x ∷ xs) zero = refl
set_any f d e (x ∷ xs) (suc k) = ap (λ l. x ∷ l) (set_any f d e xs k)

pub read_any : {A B : Type 0} (f : A → B) (d e : A) (xs : List A) (k : ℕ) → f d ≡ f e → f (get_or xs k d) ≡ f (get_or xs k e)
read_any f d e [] k h = h
read_any f d e (x ∷ xs) zero h = refl
read_any f d e (x ∷ xs) (suc k) h = read_any f d e xs k h

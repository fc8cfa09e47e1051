-- A counter that is held at a limit, and the highest sequence admitted under a lease. Assumes nothing.
use Prim.Native.Nat.{ℕ, ◌+◌, ◌<◌, ◌≤◌, max}
use mathlib.Core.Bool.{Bool, true, false, cond}
use mathlib.Core.List.{List, [], ◌∷◌}
use mathlib.Core.Logic.{inl, inr, ◌≢◌}
use mathlib.Core.Path.{◌≡◌, refl, sym, ap}
use native.Mathlib.Omega.{arith}
use borrow.Author.Tests.{ltb-true, ltb-false, lt-ltb, eq-eqb, ne_eqb}
use lib.Dec.{ltb, eqb}
use Rattle.rules.specs.Receipts.{top, bump_to, bump}
use Rattle.rules.specs.Lists.{Mem}
use Rattle.rules.specs.Log.{Admitted, highest}

pub bump-up : (n : ℕ) → n ≤ bump n
unfolding bump_to
bump-up n = go (ltb n top)
  where
    go : (t : Bool) → n ≤ cond t (n + 1) n
    go true = omega arith
    go false = omega arith

pub bump-mono : (m n : ℕ) → m ≤ n → bump m ≤ bump n
unfolding bump_to
bump-mono m n h = go (ltb m top) (ltb n top) refl refl
  where
    go : (t u : Bool) → ltb m top ≡ t → ltb n top ≡ u → cond t (m + 1) m ≤ cond u (n + 1) n
    go true true p q = omega arith
    go true false p q = omega (arith, ltb-true m top p, ltb-false n top q)
    go false true p q = omega arith
    go false false p q = omega arith

pub bump-below : (n : ℕ) → n < top → bump n ≡ n + 1
unfolding bump_to
bump-below n h = rw (lt-ltb n top h)

pub highest-none : (lease : ℕ) (A : List Admitted) → ((a : Admitted) → Mem a A → a.submission.action.lease_id ≢ lease) → highest lease A ≡ 0
unfolding highest
highest-none lease [] h = refl
highest-none lease (a ∷ more) h =
    rw (ne_eqb a.submission.action.lease_id lease (h a (inl refl))) (highest-none lease more (λ x m. h x (inr m)))

pub highest-above : (A : List Admitted) (a : Admitted) → Mem a A → a.submission.action.sequence ≤ highest a.submission.action.lease_id A
unfolding highest
highest-above [] a m = absurd m
highest-above (x ∷ A) a (inl e) =
    rw (eq-eqb x.submission.action.lease_id a.submission.action.lease_id (ap (λ (y : Admitted). y.submission.action.lease_id) (sym e)))
    (omega (arith, ap (λ (y : Admitted). y.submission.action.sequence) e))
highest-above (x ∷ A) a (inr m) = go (eqb x.submission.action.lease_id a.submission.action.lease_id) (highest-above A a m)
  where
    go : (t : Bool) → a.submission.action.sequence ≤ highest a.submission.action.lease_id A
        → a.submission.action.sequence
        ≤ cond t (max x.submission.action.sequence (highest a.submission.action.lease_id A)) (highest a.submission.action.lease_id A)
    go true h = omega arith
    go false h = h

pub highest-new : (a : Admitted) (A : List Admitted) (lease : ℕ) → a.submission.action.lease_id ≡ lease
    → highest lease A < a.submission.action.sequence → a.submission.action.sequence ≡ highest lease (a ∷ A)
unfolding highest
highest-new a A lease e h = rw (eq-eqb a.submission.action.lease_id lease e) (omega arith)

pub highest-other : (a : Admitted) (A : List Admitted) (lease : ℕ) → a.submission.action.lease_id ≢ lease → highest lease (a ∷ A) ≡ highest lease A
unfolding highest
highest-other a A lease n = rw (ne_eqb a.submission.action.lease_id lease n)

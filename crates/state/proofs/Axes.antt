-- How loops over the axes take a step, and where the first used one stands. Assumes nothing.
use Prim.Native.Nat.{ℕ, zero, suc, ◌+◌, ◌-◌, ◌<◌, ◌≤◌}
use mathlib.Core.Bool.{Bool, true, false, false≢true}
use mathlib.Core.List.{List, [], ◌∷◌}
use mathlib.Core.Logic.{inl}
use mathlib.Core.Path.{◌≡◌, refl, sym, ap, ◌∙◌}
use native.Mathlib.Omega.{arith}
use borrow.Author.Tests.{eq-eqb}
use lib.ListN.{get_or}
use Rattle.model.specs.declared.Capability.{Capability}
use Rattle.model.specs.Soundness.{axis_used}
use Rattle.model.proofs.Meaning.{sound-axis}
use Rattle.rules.specs.Rules.{select}
use Rattle.state.specs.Axes.{up_from, axes_from, used_from, first_or8, first_from, first_used}
use Rattle.state.specs.State.{Checked}

suc-of : (i : ℕ) → i < 8 → 8 - i ≡ suc (8 - (i + 1))
suc-of i h = omega arith

pub axes-step : (i : ℕ) → i < 8 → axes_from i ≡ i ∷ axes_from (i + 1)
unfolding axes_from up_from
axes-step i h = rw (suc-of i h)

pub axes-end : (i : ℕ) → 8 ≤ i → axes_from i ≡ []
unfolding axes_from up_from
axes-end i h = let z : 8 - i ≡ 0 = omega arith in rw z

module _ (p : ℕ → Bool) (i : ℕ) (h : i < 8) where
  pub select-hit : p i ≡ true → select p (axes_from i) ≡ i ∷ select p (axes_from (i + 1))
  unfolding select
  select-hit e = rw (axes-step i h, e)

  pub select-miss : p i ≡ false → select p (axes_from i) ≡ select p (axes_from (i + 1))
  unfolding select
  select-miss e = rw (axes-step i h, e)

pub select-end : (p : ℕ → Bool) (i : ℕ) → 8 ≤ i → select p (axes_from i) ≡ []
unfolding select
select-end p i h = rw (axes-end i h)

-- the first of the selected axes, and those past it
module _ (p : ℕ → Bool) where
  first-within : (n i r : ℕ) → 8 - i ≡ n → r ≡ first_or8 (select p (axes_from i)) → r < 8 → select p (axes_from i) ≡ r ∷ select p (axes_from (r + 1))
  unfolding first_or8
  first-within zero i r e f h = absurd (omega (arith, rw (select-end p i (omega arith)) at f))
  first-within (suc n) i r e f h = test (p i) refl (λ g. first-within n (i + 1) r (omega arith) g h)
    where
      low : i < 8
      low = omega arith

      test : (t : Bool) → p i ≡ t
          → (r ≡ first_or8 (select p (axes_from (i + 1))) → select p (axes_from (i + 1)) ≡ r ∷ select p (axes_from (r + 1)))
          → select p (axes_from i) ≡ r ∷ select p (axes_from (r + 1))
      test true q rest = let s = select-hit p i low q in s ∙ ap (λ x. x ∷ select p (axes_from (x + 1))) (sym (f ∙ ap first_or8 s))
      test false q rest = let s = select-miss p i low q in s ∙ rest (f ∙ ap first_or8 s)

  first-none : (n i r : ℕ) → 8 - i ≡ n → r ≡ first_or8 (select p (axes_from i)) → 8 ≤ r → select p (axes_from i) ≡ []
  unfolding first_or8
  first-none zero i r e f h = select-end p i (omega arith)
  first-none (suc n) i r e f h = test (p i) refl (λ g. first-none n (i + 1) r (omega arith) g h)
    where
      low : i < 8
      low = omega arith

      test : (t : Bool) → p i ≡ t → (r ≡ first_or8 (select p (axes_from (i + 1))) → select p (axes_from (i + 1)) ≡ []) → select p (axes_from i) ≡ []
      test true q rest = absurd (omega (arith, f ∙ ap first_or8 (select-hit p i low q)))
      test false q rest = let s = select-miss p i low q in s ∙ rest (f ∙ ap first_or8 s)

  -- there is one
  first_some : (n i axis : ℕ) → 8 - i ≡ n → i ≤ axis → axis < 8 → p axis ≡ true → first_or8 (select p (axes_from i)) < 8
  unfolding first_or8
  first_some zero i axis e l h q = absurd (omega arith)
  first_some (suc n) i axis e l h q = test (p i) refl (λ m. first_some n (i + 1) axis (omega arith) m h q)
    where
      low : i < 8
      low = omega arith

      differ : p i ≡ false → i ≡ axis → ⊥
      differ m same = false≢true (sym m ∙ ap p same ∙ q)

      past : p i ≡ false → i + 1 ≤ axis
      past m = omega (arith, differ m)

      test : (t : Bool) → p i ≡ t → (i + 1 ≤ axis → first_or8 (select p (axes_from (i + 1))) < 8) → first_or8 (select p (axes_from i)) < 8
      test true m rest = rw (select-hit p i low m) low
      test false m rest = rw (select-miss p i low m) (rest (past m))

  select-same : (q : ℕ → Bool) → ((axis : ℕ) → axis < 8 → p axis ≡ q axis) → (n i : ℕ) → 8 - i ≡ n → select p (axes_from i) ≡ select q (axes_from i)
  select-same q same zero i e = select-end p i (omega arith) ∙ sym (select-end q i (omega arith))
  select-same q same (suc n) i e = test (p i) refl (select-same q same n (i + 1) (omega arith))
    where
      low : i < 8
      low = omega arith

      test : (t : Bool) → p i ≡ t → select p (axes_from (i + 1)) ≡ select q (axes_from (i + 1)) → select p (axes_from i) ≡ select q (axes_from i)
      test true m r = select-hit p i low m ∙ ap (λ l. i ∷ l) r ∙ sym (select-hit q i low (sym (same i low) ∙ m))
      test false m r = select-miss p i low m ∙ r ∙ sym (select-miss q i low (sym (same i low) ∙ m))

-- the first axis from one on that passes the test: it is the first of those selected, or there is none
module _ (p : ℕ → Bool) where
  pub first-hit : (i r : ℕ) → r ≡ first_from p i → r < 8 → select p (axes_from i) ≡ r ∷ select p (axes_from (r + 1))
  unfolding first_from
  first-hit i r e h = first-within p (8 - i) i r refl e h

  pub first-miss : (i r : ℕ) → r ≡ first_from p i → 8 ≤ r → select p (axes_from i) ≡ []
  unfolding first_from
  first-miss i r e h = first-none p (8 - i) i r refl e h

-- the used axes of checked records, by their marks
module _ {cs : List Capability} {used : List Bool} (k : Checked cs used) where
  marked : (i : ℕ) → select (λ axis. get_or used axis false) (axes_from i) ≡ used_from cs i
  unfolding used_from
  marked i = select-same (λ axis. get_or used axis false) (axis_used cs) k.used (8 - i) i refl

  pub used-first : (i r : ℕ) → r ≡ first_used used i → r < 8 → used_from cs i ≡ r ∷ used_from cs (r + 1)
  used-first i r e h = sym (marked i) ∙ first-hit (λ axis. get_or used axis false) i r e h ∙ ap (λ l. r ∷ l) (marked (r + 1))

  pub used-none : (i r : ℕ) → r ≡ first_used used i → 8 ≤ r → used_from cs i ≡ []
  used-none i r e h = sym (marked i) ∙ first-miss (λ axis. get_or used axis false) i r e h

  pub used-some : first_used used 0 < 8
  unfolding first_from
  used-some = go cs refl
    where
      go : (l : List Capability) → cs ≡ l → first_or8 (select (λ axis. get_or used axis false) (axes_from 0)) < 8
      go [] e = absurd (k.some e)
      go (c ∷ l) e =
          let low : c.resource < 8 = omega (arith, sound-axis c (k.each c (rw e (inl refl)))) in
          first_some (λ axis. get_or used axis false) 8 0 c.resource refl (omega arith) low
          (k.used c.resource low ∙ ap (λ m. axis_used m c.resource) e ∙ rw (eq-eqb c.resource c.resource refl))

-- The eight axes, and those that a sound start uses. Assumes nothing.
use Prim.Native.Nat.{ℕ, zero, suc, ◌+◌, ◌<◌, ◌≤◌}
use mathlib.Core.Bool.{Bool, true, false, cond, ◌||◌, false≢true}
use mathlib.Core.List.{List, [], ◌∷◌, reverse_aux}
use mathlib.Core.Logic.{◌⊎◌, inl, inr}
use mathlib.Core.Path.{◌≡◌, refl}
use native.Mathlib.Omega.{arith}
use borrow.Author.Tests.{eqb-true, eqb-false, eq-eqb}
use lib.Dec.{eqb}
use Rattle.model.specs.declared.Capability.{Capability}
use Rattle.model.specs.Soundness.{axis_used}
use Rattle.rules.specs.Admission.{axes}
use Rattle.rules.specs.Lists.{Mem}
use Rattle.rules.specs.Rules.{select, used_axes}
use Rattle.rules.specs.Protocol.{Start}
use Rattle.rules.specs.SoundStart.{SoundCapability, SoundStart}
use Rattle.rules.proofs.Basics.{or_right}

abbrev up_from : ℕ → ℕ → List ℕ
up_from i zero = []
up_from i (suc n) = i ∷ up_from (suc i) n

low-mem : (n j i : ℕ) → j ≤ i → i < j + n → Mem i (up_from j n)
low-mem zero j i h k = absurd (omega arith)
low-mem (suc n) j i h k = go (eqb i j) refl (low-mem n (suc j) i)
  where
    go : (t : Bool) → eqb i j ≡ t → (suc j ≤ i → i < suc j + n → Mem i (up_from (suc j) n)) → (i ≡ j) ⊎ Mem i (up_from (suc j) n)
    go true e rest = inl (eqb-true i j e)
    go false e rest = inr (rest (omega (arith, eqb-false i j e)) (omega arith))

pub low-axis : (i : ℕ) → i < 8 → Mem i axes
low-axis i h = low-mem 8 0 i (omega arith) h

pub mem-reverse : (i : ℕ) (is d : List ℕ) → Mem i is ⊎ Mem i d → Mem i (reverse_aux is d)
mem-reverse i [] d (inl m) = absurd m
mem-reverse i [] d (inr m) = m
mem-reverse i (j ∷ is) d (inl (inl e)) = mem-reverse i is (j ∷ d) (inr (inl e))
mem-reverse i (j ∷ is) d (inl (inr m)) = mem-reverse i is (j ∷ d) (inl m)
mem-reverse i (j ∷ is) d (inr m) = mem-reverse i is (j ∷ d) (inr (inr m))

mem-select : (p : ℕ → Bool) (is : List ℕ) (i : ℕ) → p i ≡ true → Mem i is → Mem i (select p is)
unfolding select
mem-select p [] i e m = m
mem-select p (j ∷ is) i e (inl q) = rw (← q, e) (inl refl)
mem-select p (j ∷ is) i e (inr m) = go (p j) (mem-select p is i e m)
  where
    go : (t : Bool) → Mem i (select p is) → Mem i (cond t (j ∷ select p is) (select p is))
    go true n = inr n
    go false n = n

pub mem-used : (cs : List Capability) (i : ℕ) → axis_used cs i ≡ true → Mem i axes → Mem i (used_axes cs)
unfolding used_axes
mem-used cs i e m = mem-select (axis_used cs) axes i e m

-- ---- a used axis and the records that name it

pub namer : (cs : List Capability) (axis : ℕ) → axis_used cs axis ≡ true → (c : Capability) × Mem c cs × (c.resource ≡ axis)
namer [] axis e = absurd (false≢true e)
namer (c ∷ cs) axis e = go (eqb c.resource axis) refl e (namer cs axis)
  where
    go : (t : Bool) → eqb c.resource axis ≡ t → (t || axis_used cs axis) ≡ true
        → (axis_used cs axis ≡ true → (d : Capability) × Mem d cs × (d.resource ≡ axis)) → (d : Capability) × Mem d (c ∷ cs) × (d.resource ≡ axis)
    go true q e rest = (c, inl refl, eqb-true _ _ q)
    go false q e rest = let k = rest e in (k.0, inr k.1, k.2)

pub named-used : (k : Capability) (cs : List Capability) → Mem k cs → axis_used cs k.resource ≡ true
named-used k [] m = absurd m
named-used k (c ∷ cs) (inl e) = rw (← e, eq-eqb k.resource k.resource refl)
named-used k (c ∷ cs) (inr m) = or_right (eqb c.resource k.resource) _ (named-used k cs m)

-- ---- a sound start

module _ (s : Start) (h : SoundStart s) where
  -- a used axis is one of the eight, since a sound record names it
  pub used_low : (axis : ℕ) → axis_used s.capabilities axis ≡ true → axis < 8
  used_low axis = go s.capabilities h.records.each
    where
      go : (cs : List Capability) → ((c : Capability) → Mem c cs → SoundCapability c) → axis_used cs axis ≡ true → axis < 8
      go [] each e = absurd (false≢true e)
      go (c ∷ cs) each e = first (eqb c.resource axis) refl e (go cs (λ d m. each d (inr m)))
        where
          first : (t : Bool) → eqb c.resource axis ≡ t → (t || axis_used cs axis) ≡ true → (axis_used cs axis ≡ true → axis < 8) → axis < 8
          first true q e rest = omega (arith, eqb-true c.resource axis q, (each c (inl refl)).axis)
          first false q e rest = rest e

  -- and there is one
  pub some-used : (axis : ℕ) × (rest : List ℕ) × (used_axes s.capabilities ≡ axis ∷ rest)
  some-used = go s.capabilities refl
    where
      first : (is : List ℕ) (i : ℕ) → Mem i is → (axis : ℕ) × (rest : List ℕ) × (is ≡ axis ∷ rest)
      first [] i m = absurd m
      first (j ∷ is) i m = (j, is, refl)

      go : (cs : List Capability) → s.capabilities ≡ cs → (axis : ℕ) × (rest : List ℕ) × (used_axes s.capabilities ≡ axis ∷ rest)
      go [] e = absurd (h.some e)
      go (c ∷ cs) e =
          let used : axis_used s.capabilities c.resource ≡ true = rw (e, eq-eqb c.resource c.resource refl) in
          first _ c.resource (mem-used s.capabilities c.resource used (low-axis _ (used_low c.resource used)))

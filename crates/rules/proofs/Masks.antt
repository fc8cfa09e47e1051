-- The bits of a mask by their places, and which places the mask of an axis has. Assumes nothing.
use Prim.Native.Nat.{ℕ, zero, suc, ◌+◌, ◌*◌, ◌/◌, ◌%◌, ◌^◌, ◌≤◌, ◌<◌, min, max}
use mathlib.Core.Bool.{Bool, true, false, cond}
use mathlib.Core.List.{List, [], ◌∷◌}
use mathlib.Core.Logic.{◌⊎◌, inl, inr, ◌≢◌}
use mathlib.Core.Path.{◌≡◌, refl, sym, ap, ◌∙◌}
use native.Mathlib.Omega.{arith}
use borrow.Author.Tests.{eqb-true, eqb-false, eq-eqb}
use lib.Arith.{digits_div, digits_mod}
use lib.Bits.{bit_and, bit_or, and_step, or_step, and_comm}
use lib.Dec.{eqb}
use Rattle.model.specs.declared.Capability.{Capability}
use Rattle.model.specs.Words.{inside}
use Rattle.rules.specs.Lists.{Mem}
use Rattle.rules.specs.Admission.{allowed}

-- the bit at a place
bit_at : ℕ → ℕ → ℕ
bit_at n zero = n % 2
bit_at n (suc i) = bit_at (n / 2) i

small : (n i : ℕ) → bit_at n i < 2
unfolding bit_at
small n zero = omega arith
small n (suc i) = small (n / 2) i

nothing : (i : ℕ) → bit_at 0 i ≡ 0
unfolding bit_at
nothing zero = refl
nothing (suc i) = nothing i

min-small : (a b : ℕ) → min (a % 2) (b % 2) < 2
min-small a b = omega arith

max-small : (a b : ℕ) → max (a % 2) (b % 2) < 2
max-small a b = omega arith

at-and : (a b i : ℕ) → bit_at (bit_and a b) i ≡ min (bit_at a i) (bit_at b i)
unfolding bit_at
at-and a b zero = ap (λ (n : ℕ). n % 2) (and_step a b) ∙ digits_mod (bit_and (a / 2) (b / 2)) (min-small a b)
at-and a b (suc i) =
    ap (λ (n : ℕ). bit_at (n / 2) i) (and_step a b) ∙ ap (λ (n : ℕ). bit_at n i) (digits_div (bit_and (a / 2) (b / 2)) (min-small a b))
    ∙ at-and (a / 2) (b / 2) i

at-or : (a b i : ℕ) → bit_at (bit_or a b) i ≡ max (bit_at a i) (bit_at b i)
unfolding bit_at
at-or a b zero = ap (λ (n : ℕ). n % 2) (or_step a b) ∙ digits_mod (bit_or (a / 2) (b / 2)) (max-small a b)
at-or a b (suc i) =
    ap (λ (n : ℕ). bit_at (n / 2) i) (or_step a b) ∙ ap (λ (n : ℕ). bit_at n i) (digits_div (bit_or (a / 2) (b / 2)) (max-small a b))
    ∙ at-or (a / 2) (b / 2) i

half : (k : ℕ) → 2 ^ suc k / 2 ≡ 2 ^ k
half k = omega arith

even : (k : ℕ) → 2 ^ suc k % 2 ≡ 0
even k = omega arith

at_own : (k : ℕ) → bit_at (2 ^ k) k ≡ 1
unfolding bit_at
at_own zero = refl
at_own (suc k) = rw (half k) (at_own k)

at_other : (k i : ℕ) → k ≢ i → bit_at (2 ^ k) i ≡ 0
unfolding bit_at
at_other zero zero n = absurd (n refl)
at_other zero (suc i) n = nothing i
at_other (suc k) zero n = even k
at_other (suc k) (suc i) n = rw (half k) (at_other k i (λ e. n (ap suc e)))

-- a bit is there exactly if the mask shares it with the word that has it alone
absent : (n i : ℕ) → bit_at n i ≡ 0 → bit_and n (2 ^ i) ≡ 0
unfolding bit_at
absent n zero e = and_step n 1 ∙ rw e (ap (λ (x : ℕ). x * 2 + 0) (and_comm (n / 2) 0))
absent n (suc i) e = and_step n (2 ^ suc i) ∙ rw (half i, even i, absent (n / 2) i e) (omega arith)

bit-there : (n i : ℕ) → bit_and n (2 ^ i) ≢ 0 → bit_at n i ≡ 1
bit-there n i k = go (bit_at n i) refl (small n i)
  where
    go : (t : ℕ) → bit_at n i ≡ t → t < 2 → bit_at n i ≡ 1
    go zero e l = absurd (k (absent n i e))
    go (suc t) e l = e ∙ omega arith

there-bit : (n i : ℕ) → bit_at n i ≡ 1 → bit_and n (2 ^ i) ≢ 0
there-bit n i e z =
    let k : bit_at (bit_and n (2 ^ i)) i ≡ 0 = rw z (nothing i) in
    let m = at-and n (2 ^ i) i in
    let o = at_own i in
    omega arith

-- a word whose bits are all in another
every-bit : (fuel word a : ℕ) → a ≤ fuel → ((i : ℕ) → bit_at a i ≡ 1 → bit_at word i ≡ 1) → bit_and word a ≡ a
unfolding bit_at
every-bit zero word a l h = let z : a ≡ 0 = omega arith in rw z (and_comm word 0)
every-bit (suc fuel) word a l h =
    let k = every-bit fuel (word / 2) (a / 2) (omega arith) (λ i. h (suc i)) in
    and_step word a ∙ rw k (low (a % 2) (word % 2) refl refl (h 0))
  where
    low : (x y : ℕ) → a % 2 ≡ x → word % 2 ≡ y → (a % 2 ≡ 1 → word % 2 ≡ 1) → a / 2 * 2 + min (word % 2) (a % 2) ≡ a
    low zero y p q f = omega arith
    low (suc x) y p q f = let e = f (omega arith) in omega arith

-- ---- the mask of an axis

-- a capability of the axis with this id
abbrev pub Has : List Capability → ℕ → ℕ → Type 0
Has cs axis n = (c : Capability) × Mem c cs × (c.resource ≡ axis) × (c.id ≡ n)

max-one : (a b : ℕ) → a < 2 → max a b ≡ 1 → (a ≡ 1) ⊎ (b ≡ 1)
max-one zero b l e = inr (omega arith)
max-one (suc a) b l e = inl (omega arith)

one-max : (a b : ℕ) → a < 2 → b < 2 → (a ≡ 1) ⊎ (b ≡ 1) → max a b ≡ 1
one-max a b l m (inl e) = omega arith
one-max a b l m (inr e) = omega arith

of-allowed : (cs : List Capability) (axis n : ℕ) → bit_at (allowed cs axis) n ≡ 1 → Has cs axis n
unfolding allowed
of-allowed [] axis n e = absurd (let z = sym (nothing n) ∙ e in omega arith)
of-allowed (c ∷ cs) axis n e = go (eqb c.resource axis) refl e (λ q. later (of-allowed cs axis n q))
  where
    later : Has cs axis n → Has (c ∷ cs) axis n
    later h = (h.0, inr h.1, h.2, h.3)

    split : c.resource ≡ axis → (c.id ≡ n) ⊎ (bit_at (2 ^ c.id) n ≡ 0) → bit_at (2 ^ c.id) n ≡ 1 → Has (c ∷ cs) axis n
    split r (inl q) e = (c, inl refl, r, q)
    split r (inr z) e = absurd (omega arith)

    place : (t : Bool) → eqb c.id n ≡ t → (c.id ≡ n) ⊎ (bit_at (2 ^ c.id) n ≡ 0)
    place true q = inl (eqb-true _ _ q)
    place false q = inr (at_other _ _ (eqb-false _ _ q))

    both : c.resource ≡ axis → (bit_at (2 ^ c.id) n ≡ 1) ⊎ (bit_at (allowed cs axis) n ≡ 1)
        → (bit_at (allowed cs axis) n ≡ 1 → Has (c ∷ cs) axis n) → Has (c ∷ cs) axis n
    both r (inl q) rest = split r (place (eqb c.id n) refl) q
    both r (inr q) rest = rest q

    go : (t : Bool) → eqb c.resource axis ≡ t → bit_at (cond t (bit_or (2 ^ c.id) (allowed cs axis)) (allowed cs axis)) n ≡ 1
        → (bit_at (allowed cs axis) n ≡ 1 → Has (c ∷ cs) axis n) → Has (c ∷ cs) axis n
    go true r e rest = both (eqb-true _ _ r) (max-one _ _ (small (2 ^ c.id) n) (sym (at-or _ _ n) ∙ e)) rest
    go false r e rest = rest e

in-allowed : (cs : List Capability) (axis n : ℕ) → Has cs axis n → bit_at (allowed cs axis) n ≡ 1
unfolding allowed
in-allowed [] axis n h = absurd h.1
in-allowed (c ∷ cs) axis n h = go (eqb c.resource axis) refl h.1 (λ m. in-allowed cs axis n (h.0, m, h.2, h.3))
  where
    joined : (bit_at (2 ^ c.id) n ≡ 1) ⊎ (bit_at (allowed cs axis) n ≡ 1) → bit_at (bit_or (2 ^ c.id) (allowed cs axis)) n ≡ 1
    joined w = at-or (2 ^ c.id) (allowed cs axis) n ∙ one-max _ _ (small (2 ^ c.id) n) (small (allowed cs axis) n) w

    go : (t : Bool) → eqb c.resource axis ≡ t → Mem h.0 (c ∷ cs) → (Mem h.0 cs → bit_at (allowed cs axis) n ≡ 1)
        → bit_at (cond t (bit_or (2 ^ c.id) (allowed cs axis)) (allowed cs axis)) n ≡ 1
    go true r (inl q) rest = joined (inl (rw (← q, h.3) (at_own n)))
    go true r (inr m) rest = joined (inr (rest m))
    go false r (inl q) rest = absurd (eqb-false c.resource axis r (rw (← q) h.2))
    go false r (inr m) rest = rest m

pub mask-means : (mask axis : ℕ) (cs : List Capability) → inside mask (allowed cs axis) ≡ true
    → (n : ℕ) → bit_and mask (2 ^ n) ≢ 0 → Has cs axis n
unfolding inside
mask-means mask axis cs e n k =
    let own = bit-there mask n k in
    let same : bit_and (allowed cs axis) mask ≡ mask = eqb-true _ _ e in
    let both = sym (at-and (allowed cs axis) mask n) ∙ ap (λ (x : ℕ). bit_at x n) same ∙ own in
    of-allowed cs axis n (let l = small (allowed cs axis) n in omega arith)

pub means-mask : (mask axis : ℕ) (cs : List Capability) → ((n : ℕ) → bit_and mask (2 ^ n) ≢ 0 → Has cs axis n)
    → inside mask (allowed cs axis) ≡ true
unfolding inside
means-mask mask axis cs h =
    eq-eqb _ _ (every-bit mask (allowed cs axis) mask (omega arith) (λ n e. in-allowed cs axis n (h n (there-bit mask n e))))

-- What the tests of bounds, words and records mean, as plain facts: what callers cite. Assumes nothing.
use Prim.Native.Nat.{ℕ, ◌≤◌}
use mathlib.Core.Path.{◌≡◌, refl, sym, subst⁻¹}
use mathlib.Core.Bool.{Bool, true, false, ◌&&◌}
use mathlib.Core.List.{List, ◌∷◌}
use borrow.Author.Tests.{leb-true, eqb-true, eq-eqb}
use lib.Bits.{bit_and}
use lib.Dec.{T, eqb, leb}
use lib.IntN.{ℤ}
use lib.Signed.{le_z, ◌≤ℤ◌}
use Rattle.model.specs.declared.Bounds.{Bounds}
use Rattle.model.specs.declared.Capability.{Capability}
use Rattle.model.specs.Lists.{every}
use Rattle.model.specs.Bounds.{contains}
use Rattle.model.specs.Words.{share_no_bit, inside, permits}
use Rattle.model.specs.Soundness.{conditions, sound}
use Rattle.model.proofs.Tests.{and-when, and_both}

-- ---- the formulas of the code's contracts are these definitions

pub contains-formula : (b : Bounds) (value : ℤ) → (le_z b.min value && le_z value b.max) ≡ contains b value
unfolding contains
contains-formula b value = refl

pub permits-formula : (c : Capability) (flags : ℕ)
    → (eqb (bit_and flags c.require_set) c.require_set && eqb (bit_and flags c.require_clear) 0) ≡ permits c flags
unfolding permits inside share_no_bit
permits-formula c flags = refl

-- ---- bounds

from-T : (t : Bool) → T t → t ≡ true
from-T true h = refl
from-T false h = absurd h

to-T : {t : Bool} → t ≡ true → T t
to-T e = subst⁻¹ T e tt

pub contains-means : (b : Bounds) (value : ℤ) → contains b value ≡ true → (b.min ≤ℤ value) × (value ≤ℤ b.max)
unfolding contains
contains-means b value e =
    let h = and_both (le_z b.min value) (le_z value b.max) e in
    (record { le = to-T h.0 }, record { le = to-T h.1 })

pub means-contains : (b : Bounds) (value : ℤ) → b.min ≤ℤ value → value ≤ℤ b.max → contains b value ≡ true
unfolding contains
means-contains b value low high = sym (and-when (from-T (le_z b.min value) low.le) (sym (from-T (le_z value b.max) high.le)))

-- ---- flags

pub permits-means : (c : Capability) (flags : ℕ) → permits c flags ≡ true
    → (bit_and flags c.require_set ≡ c.require_set) × (bit_and flags c.require_clear ≡ 0)
unfolding permits inside share_no_bit
permits-means c flags e =
    let h = and_both (inside c.require_set flags) (share_no_bit flags c.require_clear) e in
    (eqb-true _ _ h.0, eqb-true _ _ h.1)

pub means-permits : (c : Capability) (flags : ℕ) → bit_and flags c.require_set ≡ c.require_set
    → bit_and flags c.require_clear ≡ 0 → permits c flags ≡ true
unfolding permits inside share_no_bit
means-permits c flags set clear = sym (and-when (eq-eqb _ _ set) (sym (eq-eqb _ _ clear)))

-- ---- a sound record

first : {a : Bool} (l : List Bool) → every (a ∷ l) ≡ true → a ≡ true
unfolding every
first {a} l e = (and_both a (every l) e).0

rest : (a : Bool) (l : List Bool) → every (a ∷ l) ≡ true → every l ≡ true
unfolding every
rest a l e = (and_both a (every l) e).1

pub sound-id : (c : Capability) → sound c ≡ true → (1 ≤ c.id) × (c.id ≤ 63)
unfolding sound conditions
sound-id c e =
    let h = and_both (leb 1 c.id) (leb c.id 63) (first _ e) in
    (leb-true _ _ h.0, leb-true _ _ h.1)

pub sound-axis : (c : Capability) → sound c ≡ true → c.resource ≤ 7
unfolding sound conditions
sound-axis c e = leb-true _ _ (first _ (rest _ _ e))

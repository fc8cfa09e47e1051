-- The axes in use, where each record is sound. Assumes nothing.
use Prim.Native.Nat.{ℕ, ◌≤◌}
use mathlib.Core.Bool.{true, false}
use mathlib.Core.List.{List, [], ◌∷◌}
use mathlib.Core.Logic.{inl, inr}
use mathlib.Core.Path.{◌≡◌, refl}
use borrow.Author.Tests.{ne_eqb}
use native.Mathlib.Omega.{arith}
use Rattle.model.specs.declared.Capability.{Capability}
use Rattle.model.specs.Soundness.{axis_used, sound}
use Rattle.model.proofs.Meaning.{sound-axis}
use Rattle.rules.specs.Lists.{Mem}

pub unused-past : (axis : ℕ) (l : List Capability) → ((c : Capability) → Mem c l → sound c ≡ true) → 8 ≤ axis → axis_used l axis ≡ false
unused-past axis [] each h = refl
unused-past axis (c ∷ l) each h =
    rw (ne_eqb c.resource axis (λ e. omega (arith, sound-axis c (each c (inl refl))))) (unused-past axis l (λ x m. each x (inr m)) h)

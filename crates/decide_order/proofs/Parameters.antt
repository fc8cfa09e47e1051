-- Parameters and their bounds, two by two. Assumes nothing.
use mathlib.Core.Bool.{◌&&◌, and-true}
use mathlib.Core.List.{List, [], ◌∷◌}
use mathlib.Core.Path.{◌≡◌, refl, ap, ◌∙◌}
use native.Mathlib.Omega.{arith}
use lib.IntN.{ℤ}
use lib.ListN.{length, get_or}
use lib.Signed.{le_z}
use mir.Facts.{to_z-of_z}
use mir.Syntax.{w32}
use mir.Val.{SFits, to_z, of_z}
use Rattle.model.specs.Bounds.{contains}
use Rattle.model.specs.declared.Bounds.{Bounds}
use Rattle.model.proofs.Meaning.{contains-formula}
use Rattle.rules.specs.Admission.{all_contain}

two : {A : Type 0} (l : List A) (d : A) → length l ≡ 2 → l ≡ (get_or l 0 d ∷ get_or l 1 d ∷ [])
two [] d n = absurd (omega arith)
two (a ∷ []) d n = absurd (omega arith)
two (a ∷ b ∷ []) d n = refl
two (a ∷ b ∷ x ∷ l) d n = absurd (omega arith)

pub contain-two : (bs : List Bounds) (b : Bounds) (ps : List ℤ) (p : ℤ) → length bs ≡ 2 → length ps ≡ 2
    → all_contain bs ps ≡ (contains (get_or bs 0 b) (get_or ps 0 p) && contains (get_or bs 1 b) (get_or ps 1 p))
unfolding all_contain
contain-two bs b ps p n m = rw (two bs b n, two ps p m, and-true)

-- the contract of `Bounds::contains` at a parameter as the code reads it
pub contains-read : (b : Bounds) (z : ℤ) → SFits w32 z
    → (le_z b.min (to_z w32 (of_z w32 z)) && le_z (to_z w32 (of_z w32 z)) b.max) ≡ contains b z
contains-read b z f = contains-formula b (to_z w32 (of_z w32 z)) ∙ ap (contains b) (to_z-of_z f)

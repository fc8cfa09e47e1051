-- A list from an index on; the library's comparing and adding up by the definitions. Assumes nothing.
use Prim.Native.Nat.{ℕ, ◌+◌, ◌<◌}
use mathlib.Core.Bool.{Bool, true, false, ◌&&◌}
use mathlib.Core.List.{List, [], ◌∷◌}
use mathlib.Core.Path.{◌≡◌, refl}
use native.Mathlib.Omega.{arith}
use native.Mathlib.Numerals.{add-one}
use lib.Dec.{eqb}
use lib.ListN.{length, drop, get_or}
use lib.Seq.{drop-cons}
use Rattle.std.specs.Cmp.Lexicographic.{pointwise}
use Rattle.std.proofs.lemmas.Bool.Decides.{nat_tests}
use Rattle.card.specs.Card.{same}

-- the rest of a list, from an index on and from the next
pub rest_at : (l : List ℕ) (i : ℕ) → i < length l → drop i l ≡ get_or l i 0 ∷ drop (i + 1) l
rest_at l i h = rw (add-one, drop-cons l i 0)

pub same-uneven : (a b : List ℕ) → (length a ≡ length b → ⊥) → same a b ≡ false
unfolding same
same-uneven [] [] h = absurd (h refl)
same-uneven [] (y ∷ ys) h = refl
same-uneven (x ∷ xs) [] h = refl
same-uneven (x ∷ xs) (y ∷ ys) h = go (eqb x y) (same-uneven xs ys (λ e. h (omega arith)))
  where
    go : (t : Bool) → same xs ys ≡ false → (t && same xs ys) ≡ false
    go true e = e
    go false e = refl

eqb-swapped : (x y : ℕ) → eqb y x ≡ eqb x y
eqb-swapped x y = grind (arith, nat_tests)

pub same-by : (xs ys : List ℕ) → pointwise eqb ys xs ≡ same xs ys
unfolding same
same-by [] [] = refl
same-by [] (y ∷ ys) = refl
same-by (x ∷ xs) [] = refl
same-by (x ∷ xs) (y ∷ ys) = rw (eqb-swapped x y, same-by xs ys)

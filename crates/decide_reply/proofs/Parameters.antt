-- The code's `==` of two arrays of two parameters. Assumes nothing.
use mathlib.Core.Bool.{Bool, true, false, ◌&&◌, and-true, false≢true}
use mathlib.Core.List.{List, [], ◌∷◌}
use mathlib.Core.Path.{◌≡◌, refl, sym, ap, ◌∙◌}
use native.Mathlib.Nat.{le_refl}
use native.Mathlib.Omega.{arith}
use borrow.Author.Tests.{eq-eqb, ne_eqb, leb-true, le-leb}
use lib.Dec.{eqb}
use lib.IntN.{ℤ, pos, negsuc}
use lib.ListN.{length, get_or}
use lib.Signed.{le_z}
use mir.Facts.{to_z-of_z}
use mir.Syntax.{Width}
use mir.Val.{SFits, to_z, of_z}
use Rattle.model.proofs.Tests.{and-when, and_both}
use Rattle.rules.specs.Rules.{same_parameters}

two : {A : Type 0} (l : List A) (d : A) → length l ≡ 2 → l ≡ (get_or l 0 d ∷ get_or l 1 d ∷ [])
two [] d n = absurd (omega arith)
two (a ∷ []) d n = absurd (omega arith)
two (a ∷ b ∷ []) d n = refl
two (a ∷ b ∷ x ∷ l) d n = absurd (omega arith)

at-most-itself : (x : ℤ) → le_z x x ≡ true
at-most-itself (pos a) = le-leb a a (le_refl a)
at-most-itself (negsuc a) = le-leb a a (le_refl a)

same : (x y : ℤ) → le_z x y ≡ true → le_z y x ≡ true → x ≡ y
same (pos a) (pos b) h k = ap pos (omega (arith, leb-true a b h, leb-true b a k))
same (pos a) (negsuc b) h k = absurd (false≢true h)
same (negsuc a) (pos b) h k = absurd (false≢true k)
same (negsuc a) (negsuc b) h k = ap negsuc (omega (arith, leb-true b a h, leb-true a b k))

pub signed_equal : (w : Width) (x y : ℤ) → SFits w x → SFits w y → eqb (of_z w x) (of_z w y) ≡ (le_z x y && le_z y x)
signed_equal w x y f g = by_order (le_z x y && le_z y x) refl
  where
    by_order : (t : Bool) → (le_z x y && le_z y x) ≡ t → eqb (of_z w x) (of_z w y) ≡ t
    by_order true h = let k = and_both (le_z x y) (le_z y x) h in eq-eqb _ _ (ap (of_z w) (same x y k.0 k.1))
    by_order false h =
        ne_eqb _ _ λ e.
        let s : x ≡ y = sym (to_z-of_z f) ∙ ap (to_z w) e ∙ to_z-of_z g in
        false≢true (sym (rw s at h) ∙ sym (and-when (at-most-itself y) (sym (at-most-itself y))))

-- the first two compared as the code does, the others not yet
pub same-two : (w : Width) (ps qs : List ℤ) (d : ℤ) → length ps ≡ 2 → length qs ≡ 2
    → SFits w (get_or ps 0 d)
    → SFits w (get_or qs 0 d)
    → same_parameters ps qs
    ≡ (eqb (of_z w (get_or ps 0 d)) (of_z w (get_or qs 0 d)) && (le_z (get_or ps 1 d) (get_or qs 1 d) && le_z (get_or qs 1 d) (get_or ps 1 d)))
unfolding same_parameters
same-two w ps qs d n m f g = rw (two ps d n, two qs d m, signed_equal w _ _ f g, and-true)

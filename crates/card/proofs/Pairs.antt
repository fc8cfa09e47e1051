-- A pair as one number, and back, as the code reads and makes it. Assumes nothing.
use Prim.Native.Nat.{ℕ, ◌+◌, ◌*◌, ◌/◌, ◌%◌, ◌<◌}
use mathlib.Core.List.{List, [], ◌∷◌}
use mathlib.Core.Path.{◌≡◌, ap, ◌∙◌}
use native.Mathlib.Omega.{arith}
use lib.IntN.{ℤ, pos}
use lib.ListN.{get_or}
use mir.Facts.{to_z-of_z}
use mir.Syntax.{w32}
use mir.Val.{SFits, to_z, of_z}
use Rattle.words.specs.Signs.{unsigned, signed}
use Rattle.words.proofs.Signs.{signed-fits, unsigned-below}
use Rattle.card.specs.Card.{pair_number, pair_of}

-- what the code reads of a number that fits is that number
abbrev read : ℤ → ℤ
read z = to_z w32 (of_z w32 z)

module _ (zs : List ℤ) {a b : ℕ} (f : SFits w32 (get_or zs 0 (pos 0))) (g : SFits w32 (get_or zs 1 (pos 0)))
    (d : a ≡ unsigned (read (get_or zs 0 (pos 0)))) (e : b ≡ unsigned (read (get_or zs 1 (pos 0)))) where
  pub pair-number-fits : a + 4294967296 * b < 18446744073709551616
  pair-number-fits =
      let p = d ∙ ap unsigned (to_z-of_z {w = w32} f) in
      let q = e ∙ ap unsigned (to_z-of_z {w = w32} g) in
      omega (arith, p, q, unsigned-below (get_or zs 0 (pos 0)) f, unsigned-below (get_or zs 1 (pos 0)) g)

  pub pair-number-by : a + 4294967296 * b ≡ pair_number zs
  unfolding pair_number
  pair-number-by = rw (d, e, to_z-of_z {w = w32} f, to_z-of_z {w = w32} g)

-- the signed number of 32 bits, made by the code
made : {x : ℤ} {b : ℕ} → b < 4294967296 → x ≡ signed b → read x ≡ signed b
made h d = rw (d, to_z-of_z {w = w32} (signed-fits _ h))

pub pair-of-by : (n : ℕ) {x y : ℤ} → n < 18446744073709551616 → x ≡ signed (n % 4294967296) → y ≡ signed (n / 4294967296)
    → ◌≡◌ {A = List ℤ} (read x ∷ read y ∷ []) (pair_of n)
unfolding pair_of
pair-of-by n h d e = rw (made (omega arith) d, made (omega arith) e)

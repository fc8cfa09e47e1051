-- The library's casts between 32 bits and a signed number are the definitions'. Assumes nothing.
use Prim.Native.Nat.{ℕ}
use native.Mathlib.Omega.{arith}
use mathlib.Core.Bool.{cond}
use mathlib.Core.Path.{◌≡◌, refl, ap}
use lib.Dec.{ltb}
use lib.IntN.{ℤ, pos, negsuc}
use mir.Syntax.{w32}
use mir.Val.{to_z, of_z}
use Rattle.words.specs.Signs.{signed, unsigned}

pub signed-is : (bits : ℕ) → to_z w32 bits ≡ signed bits
unfolding signed
signed-is bits = ap (λ (m : ℕ). cond (ltb bits 2147483648) (pos bits) (negsuc m)) (omega arith)

pub unsigned-is : (z : ℤ) → of_z w32 z ≡ unsigned z
unfolding unsigned
unsigned-is (pos n) = refl
unsigned-is (negsuc n) = omega arith

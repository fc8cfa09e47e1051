-- What an Option is not, and that it holds one value. Assumes nothing.
use Prim.Native.Nat.{ℕ}
use mathlib.Core.Path.{◌≡◌}
use native.Mathlib.Omega.{arith}
use Rattle.std.specs.Prelude.{Some, None}

pub some-ne-none : {A : Type 0} (a : A) → Some a ≡ None → ⊥
some-ne-none a e = let z : ◌≡◌ {A = ℕ} 0 1 = cc in omega arith

pub some-injective : {A : Type 0} (a b : A) → Some a ≡ Some b → a ≡ b
some-injective a b e = cc

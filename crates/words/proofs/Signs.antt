-- 32 bits and the signed number that they stand for determine each other. Assumes nothing.
use Prim.Native.Nat.{ℕ, ◌-◌, ◌<◌, ◌≤◌}
use mathlib.Core.Bool.{Bool, true, false}
use mathlib.Core.Path.{◌≡◌, refl, ap}
use native.Mathlib.Omega.{arith}
use borrow.Author.Tests.{lt-ltb, le-ltb, ltb-true, ltb-false}
use lib.Dec.{ltb}
use lib.IntN.{ℤ, pos, negsuc}
use mir.Syntax.{w32}
use mir.Val.{SFits}
use Rattle.words.specs.Signs.{unsigned, signed}

pub unsigned-below : (z : ℤ) → SFits w32 z → unsigned z < 4294967296
unfolding unsigned
unsigned-below (pos n) f = let k : n < 2147483648 = f.sfits in omega arith
unsigned-below (negsuc n) f = omega arith

-- from a signed number to its bits and back
pub signed-unsigned : (z : ℤ) → SFits w32 z → signed (unsigned z) ≡ z
unfolding signed unsigned
signed-unsigned (pos n) f = rw (lt-ltb n 2147483648 f.sfits)
signed-unsigned (negsuc n) f =
    let k : n < 2147483648 = f.sfits in
    rw (le-ltb (4294967295 - n) 2147483648 (omega arith)) (ap negsuc (omega arith))

-- from bits to their signed number and back
module _ (w : ℕ) (h : w < 4294967296) where
  pub unsigned_signed : unsigned (signed w) ≡ w
  unfolding signed unsigned
  unsigned_signed = go (ltb w 2147483648) refl
    where
      go : (t : Bool) → ltb w 2147483648 ≡ t → unsigned (signed w) ≡ w
      go true e = rw e
      go false e = let k : 2147483648 ≤ w = ltb-false w 2147483648 e in rw e (omega arith)

  pub signed-fits : SFits w32 (signed w)
  unfolding signed
  signed-fits = go (ltb w 2147483648) refl
    where
      go : (t : Bool) → ltb w 2147483648 ≡ t → SFits w32 (signed w)
      go true e = rw e (record { sfits = ltb-true w 2147483648 e })
      go false e = let k : 2147483648 ≤ w = ltb-false w 2147483648 e in rw e (record { sfits = omega arith })

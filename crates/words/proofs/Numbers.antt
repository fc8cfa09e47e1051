-- A number and its bytes, little end first, determine each other, at any width. Assumes nothing.
use Prim.Native.Nat.{ℕ, zero, suc, ◌+◌, ◌-◌, ◌*◌, ◌/◌, ◌%◌, ◌^◌, ◌<◌}
use mathlib.Core.Path.{◌≡◌, refl, subst}
use mathlib.Core.List.{List, [], ◌∷◌}
use native.Mathlib.Nat.{pow-zero, pow-succ'}
use native.Mathlib.Omega.{arith}
use lib.ListN.{length}
use Rattle.words.specs.Words.{Bytes, little_number, little_end}

-- one byte more: the number without it is below a 256th
part-below : (w n : ℕ) → n < 256 ^ suc w → n / 256 < 256 ^ w
part-below w n h = let k : n < 256 * 256 ^ w = subst (λ (m : ℕ). n < m) (pow-succ' 256 w) h in omega arith

-- from a number to its bytes and back
pub number-bytes : (w n : ℕ) → n < 256 ^ w → little_number (little_end w n) ≡ n
unfolding little_number little_end
number-bytes zero n h = omega (arith, pow-zero 256)
number-bytes (suc w) n h = omega (arith, number-bytes w (n / 256) (part-below w n h))

pub number-below : (bs : List ℕ) → Bytes bs → little_number bs < 256 ^ length bs
unfolding little_number
number-below [] t = omega arith
number-below (b ∷ bs) t = omega (arith, number-below bs t.1, pow-succ' 256 (length bs))

-- from bytes to their number and back
pub bytes-number : (bs : List ℕ) → Bytes bs → little_end (length bs) (little_number bs) ≡ bs
unfolding little_number little_end
bytes-number [] t = refl
bytes-number (b ∷ bs) t =
    let low : (b + 256 * little_number bs) % 256 ≡ b = omega arith in
    let high : (b + 256 * little_number bs) / 256 ≡ little_number bs = omega arith in
    rw (low, high, bytes-number bs t.1)

-- the first byte of a number, and the others
pub bytes-first : (w n : ℕ) → 0 < w → little_end w n ≡ n % 256 ∷ little_end (w - 1) (n / 256)
unfolding little_end
bytes-first zero n h = absurd (omega arith)
bytes-first (suc w) n h = let e : suc w - 1 ≡ w = omega arith in rw e

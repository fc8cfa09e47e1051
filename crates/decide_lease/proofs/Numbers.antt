-- The end of a duration, and the bit of a capability. Assumes nothing.
use Prim.Native.Nat.{ℕ, ◌+◌, ◌-◌, ◌*◌, ◌%◌, ◌^◌, ◌<◌, ◌≤◌}
use mathlib.Core.Path.{◌≡◌, sym, ap, ◌∙◌}
use borrow.Author.Tests.{le-leb, lt-leb}
use native.Mathlib.Decide.{dec_le}
use native.Mathlib.Nat.{one-mul, mod-eq_of_lt}
use native.Mathlib.Omega.{arith}
use lib.Bits.{bit_and, and_mask}
use lib.Dec.{leb}
use lib.Pow.{pow-lt}

-- a sum is tested by a difference, which can't wrap
pub sum_fits : (a d t : ℕ) → d ≤ t → leb a (t - d) ≡ leb (a + d) t
sum_fits a d t h = by_cases (dec_le a (t - d))
  where
    by_cases : Dec (a ≤ t - d) → leb a (t - d) ≡ leb (a + d) t
    by_cases (yes k) = le-leb a (t - d) k ∙ sym (le-leb (a + d) t (omega arith))
    by_cases (no k) = lt-leb a (t - d) (omega (arith, k)) ∙ sym (lt-leb (a + d) t (omega (arith, k)))

-- what `1u64 << (n & 63)` gives
pub bit-of : (n : ℕ) → n < 64 → (1 * 2 ^ bit_and n 63) % 2 ^ 64 ≡ 2 ^ n
bit-of n h =
    ap (λ (x : ℕ). (1 * 2 ^ x) % 2 ^ 64) (and_mask n 6 ∙ mod-eq_of_lt h)
    ∙ ap (λ (x : ℕ). x % 2 ^ 64) (one-mul (2 ^ n))
    ∙ mod-eq_of_lt (pow-lt h)

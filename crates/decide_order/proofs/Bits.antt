-- The bit of a capability's id. Assumes nothing.
use Prim.Native.Nat.{ℕ, ◌*◌, ◌%◌, ◌^◌, ◌<◌, ◌≤◌}
use mathlib.Core.Path.{◌≡◌, ap, ◌∙◌}
use native.Mathlib.Nat.{one-mul, mod-eq_of_lt}
use native.Mathlib.Omega.{arith}
use lib.Bits.{bit_and, and_mask, mask_lt}
use lib.Pow.{shl_exact}

pub below : (id : ℕ) → bit_and id 63 < 64
below id = mask_lt id 6

-- the code takes the id modulo 64, which leaves one below 64 as it is
pub bit : (id : ℕ) → id ≤ 63 → (1 * 2 ^ bit_and id 63) % 2 ^ 64 ≡ 2 ^ id
bit id h =
    ap (λ (n : ℕ). (1 * 2 ^ n) % 2 ^ 64) (and_mask id 6 ∙ mod-eq_of_lt (omega arith))
    ∙ shl_exact {a = 1} 1 id 64 (omega arith) (omega arith)
    ∙ one-mul (2 ^ id)

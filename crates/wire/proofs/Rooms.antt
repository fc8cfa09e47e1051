-- The room that records take. Assumes nothing.
use Prim.Native.Nat.{ℕ, ◌+◌, ◌*◌, ◌≤◌, ◌<◌}
use mathlib.Core.Path.{◌≡◌}
use native.Mathlib.Omega.{arith}

-- a record below a count, of which all fit
pub room : (i n m k : ℕ) → i < n → 208 * n ≤ m → k ≡ m → 208 * i + 208 ≤ k
room i n m k h l e = omega arith

pub next-room : (i n m : ℕ) → i < n → 208 * n ≤ m → 208 * (i + 1) ≤ m
next-room i n m h l = omega arith

-- Signed numbers of 32 bits, in two's complement.
use Rattle.std.specs.Prelude.{ℕ, ◌-◌, cond, ltb, ℤ, pos, negsuc}

-- the bits of a signed number
unfoldable pub unsigned : ℤ → ℕ
unsigned (pos n) = n
unsigned (negsuc n) = 4294967295 - n

-- the signed number of the bits
unfoldable pub signed : ℕ → ℤ
signed w = cond (ltb w 2147483648) (pos w) (negsuc (4294967295 - w))

-- Words as sets of bits, and the flags that a capability permits.
use Rattle.std.specs.Prelude.{ℕ, Bool, ◌&&◌, eqb}
use Rattle.std.specs.Int.Bits.{bit_and}
use Rattle.model.specs.declared.Capability.{Capability}

unfoldable pub share_no_bit : ℕ → ℕ → Bool
share_no_bit a b = eqb (bit_and a b) 0

-- every bit of `a` stands in `word`
unfoldable pub inside : ℕ → ℕ → Bool
inside a word = eqb (bit_and word a) a

-- every bit of `require_set` stands in the flags, and none of `require_clear`
unfoldable pub permits : Capability → ℕ → Bool
permits c flags = inside c.require_set flags && share_no_bit flags c.require_clear

-- Bounds: an interval of signed numbers, both ends in it.
use Rattle.std.specs.Prelude.{Bool, ◌&&◌, eqb, ℤ, nat_abs}
use Rattle.std.specs.Int.Signed.{le_z}
use Rattle.model.specs.declared.Bounds.{Bounds}

-- min ≤ value ≤ max
unfoldable pub contains : Bounds → ℤ → Bool
contains b value = le_z b.min value && le_z value b.max

-- min ≤ max
abbrev pub ordered : Bounds → Bool
ordered b = le_z b.min b.max

-- (0, 0)
unfoldable pub is_zero : Bounds → Bool
is_zero b = eqb (nat_abs b.min) 0 && eqb (nat_abs b.max) 0

-- A signed number that the code reads. Assumes nothing.
use Prim.Native.Nat.{ℕ}
use mathlib.Core.Path.{◌≡◌, ap, ◌∙◌}
use lib.IntN.{ℤ}
use mir.Facts.{to_z-of_z}
use mir.Syntax.{w32}
use mir.Val.{SFits, to_z, of_z}
use Rattle.words.specs.Signs.{unsigned}

-- what the code reads of a number that fits is that number
pub as_read : {w : ℕ} {z : ℤ} → SFits w32 z → w ≡ unsigned (to_z w32 (of_z w32 z)) → w ≡ unsigned z
as_read f e = e ∙ ap unsigned (to_z-of_z {w = w32} f)

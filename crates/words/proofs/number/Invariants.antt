use Prim.Native.Nat.{◌<◌, ◌^◌}
use mathlib.Core.List.{map, reverse}
use mathlib.Core.Path.{◌≡◌}
use lib.ListN.{length}
use Rattle.words.specs.Words.{little_number}
use Rattle.words.proofs.number.Given as goal

-- the number of the bytes passed, which is below what so many bytes can hold
abbrev pub invariant-loop-byte : goal.invariant-loop-byte
invariant-loop-byte l =
    (l.n ≡ little_number (reverse (map (λ b. b.now) l.yielded))) × (l.n < 256 ^ length l.yielded)

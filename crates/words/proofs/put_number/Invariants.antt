use Prim.Native.Nat.{◌-◌}
use mathlib.Core.List.{◌++◌}
use mathlib.Core.Path.{◌≡◌}
use lib.ListN.{length, take}
use Rattle.words.specs.Words.{little_end}
use Rattle.words.proofs.put_number.Given as goal

-- the bytes that are written and those of what is left are all
abbrev pub invariant-loop-byte : goal.invariant-loop-byte
invariant-loop-byte l =
    (length l.byte-items ≡ l.width) × (take l.byte-index l.byte-items ++ little_end (l.width - l.byte-index) l.rest ≡ little_end l.width l.number)

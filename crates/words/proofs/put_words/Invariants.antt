use Prim.Native.Nat.{◌+◌, ◌*◌}
use mathlib.Core.Path.{◌≡◌}
use lib.ListN.{length, take}
use Rattle.words.specs.Words.{bytes_of, over}
use Rattle.words.proofs.put_words.Given as goal

-- the bytes of the words passed stand over the output
abbrev pub invariant-loop-word : goal.invariant-loop-word
invariant-loop-word g l =
    (l.place ≡ l.at + 8 * l.word-index) × (length l.output ≡ length l.initial.output) × (l.output ≡ over l.initial.output l.at (bytes_of (take l.word-index l.word-items)))

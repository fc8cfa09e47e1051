use mathlib.Core.Path.{◌≡◌}
use lib.ListN.{length, take}
use Rattle.words.specs.Words.{words_at}
use Rattle.words.proofs.words_at.Given as goal

-- the words read so far stand in front
abbrev pub invariant-loop-i : goal.invariant-loop-i
invariant-loop-i g l = (length l.words ≡ g.row.N) × (take l.i l.words ≡ words_at l.i l.bytes l.at)

use mathlib.Core.Path.{◌≡◌}
use lib.ListN.{length, take}
use Rattle.cells.specs.Cells.{part}
use Rattle.cells.proofs.read.Given as goal

-- the words read so far stand in front
abbrev pub invariant-loop-i : goal.invariant-loop-i
invariant-loop-i g l = (length l.words ≡ g.row.N) × (take l.i l.words ≡ part l.state l.at l.i)

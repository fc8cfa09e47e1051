use mathlib.Core.Path.{◌≡◌}
use lib.ListN.{take}
use Rattle.cells.specs.Cells.{put}
use Rattle.cells.proofs.write.Given as goal

-- the words passed are stored
abbrev pub invariant-loop-i : goal.invariant-loop-i
invariant-loop-i l = l.state ≡ put l.initial.state l.at (take l.i l.words)

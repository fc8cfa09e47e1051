use mathlib.Core.Path.{sym}
use Rattle.rows.proofs.Codes.{below-back, below-past}
use Rattle.rows.proofs.held_below.Goals as goal

pub returns-then-word-n : goal.returns-then-word-n
returns-then-word-n c = sym (below-back _ _ c.if-word-n.true)

pub returns-else-word-n : goal.returns-else-word-n
returns-else-word-n c = sym (below-past _ _ c.if-word-n.false)

use mir.Facts.{to_z-of_z}
use mir.Syntax.{w32}
use borrow.Author.Rules.{rules}
use Rattle.rows.proofs.signs_of.Goals as goal

pub returns : goal.returns
returns c = rw (to_z-of_z {w = w32} {z = c.signed.result} (search rules), to_z-of_z {w = w32} {z = c.signed-2.result} (search rules), c.signed-2.ensures, c.high.ensures, c.signed.ensures, c.low.ensures)

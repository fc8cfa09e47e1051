use mathlib.Core.Path.{◌∙◌}
use mir.Facts.{to_z-of_z}
use borrow.Author.Rules.{rules}
use mir.Syntax.{w32}
use Rattle.words.proofs.SignLaws.{signed-is}
use Rattle.words.proofs.signed.Goals as goal

pub returns : goal.returns
returns c = to_z-of_z {w = w32} {z = c.cast_signed.result} (search rules) ∙ c.cast_signed.ensures ∙ signed-is c.args.bits

use mathlib.Core.Path.{ap, ◌∙◌}
use mir.Facts.{to_z-of_z}
use mir.Val.{of_z}
use mir.Syntax.{w32}
use borrow.Author.Rules.{rules}
use Rattle.words.proofs.SignLaws.{unsigned-is}
use Rattle.words.proofs.unsigned.Goals as goal

pub returns : goal.returns
returns c =
    c.from.ensures ∙ c.cast_unsigned.ensures ∙ ap (of_z w32) (to_z-of_z {w = w32} {z = c.args.value} (search rules)) ∙ unsigned-is c.args.value

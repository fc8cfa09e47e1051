use mathlib.Core.List.{[], ◌∷◌}
use Rattle.model.specs.declared.Presence.TheVariants as Presence
use Rattle.rows.proofs.Codes.{first-case}
use Rattle.rows.proofs.presence_of.Goals as goal

pub returns-in_default : goal.returns-in_default
returns-in_default c = first-case Presence.Absent (Presence.Present ∷ []) c.args.word c.in_default.in_default-own.rest

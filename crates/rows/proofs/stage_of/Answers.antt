use mathlib.Core.List.{[], ◌∷◌}
use Rattle.decide_start.specs.declared.Stage.TheVariants as Stage
use Rattle.rows.proofs.Codes.{first-case}
use Rattle.rows.proofs.stage_of.Goals as goal

pub returns-in_default : goal.returns-in_default
returns-in_default c = first-case Stage.Gone (Stage.Trying ∷ Stage.Started ∷ []) c.args.word c.in_default.in_default-own.rest

use mathlib.Core.List.{[], ◌∷◌}
use Rattle.model.specs.declared.Decision.TheVariants as Decision
use Rattle.rows.proofs.Codes.{first-case}
use Rattle.rows.proofs.decision_of.Goals as goal

pub returns-in_default : goal.returns-in_default
returns-in_default c = first-case Decision.Executed (Decision.Rejected ∷ Decision.Fallback ∷ Decision.Control ∷ Decision.Failed ∷ []) c.args.word c.in_default.in_default-own.rest

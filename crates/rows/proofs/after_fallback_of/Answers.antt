use mathlib.Core.List.{[], ◌∷◌}
use Rattle.state.specs.declared.AfterFallback.TheVariants as AfterFallback
use Rattle.rows.proofs.Codes.{first-case}
use Rattle.rows.proofs.after_fallback_of.Goals as goal

pub returns-in_default : goal.returns-in_default
returns-in_default c = first-case AfterFallback.Trip (AfterFallback.Expiry ∷ AfterFallback.Precondition ∷ AfterFallback.Recovery ∷ AfterFallback.Cancel ∷ []) c.args.word c.in_default.in_default-own.rest

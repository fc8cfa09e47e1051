use mathlib.Core.List.{[], ◌∷◌}
use Rattle.model.specs.declared.RuntimeState.TheVariants as State
use Rattle.rows.proofs.Codes.{first-case}
use Rattle.rows.proofs.mode_of.Goals as goal

pub returns-in_default : goal.returns-in_default
returns-in_default c = first-case State.SafeIdle (State.Armed ∷ State.Faulted ∷ State.Estopped ∷ []) c.args.word c.in_default.in_default-own.rest

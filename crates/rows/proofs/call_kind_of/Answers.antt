use mathlib.Core.List.{[], ◌∷◌}
use Rattle.state.specs.declared.CallKind.TheVariants as CallKind
use Rattle.rows.proofs.Codes.{first-case}
use Rattle.rows.proofs.call_kind_of.Goals as goal

pub returns-in_default : goal.returns-in_default
returns-in_default c = first-case CallKind.Tick (CallKind.UpdateState ∷ CallKind.RecoverLocal ∷ CallKind.Acquire ∷ CallKind.Renew ∷ CallKind.Cancel ∷ CallKind.Submit ∷ []) c.args.word c.in_default.in_default-own.rest

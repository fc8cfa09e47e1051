use mathlib.Core.List.{[], ◌∷◌}
use Rattle.state.specs.declared.Awaited.TheVariants as Awaited
use Rattle.rows.proofs.Codes.{first-case}
use Rattle.rows.proofs.awaited_of.Goals as goal

pub returns-in_default : goal.returns-in_default
returns-in_default c = first-case Awaited.Nothing (Awaited.ObserveBefore ∷ Awaited.Execute ∷ Awaited.ObserveAfter ∷ Awaited.Fallback ∷ Awaited.Record ∷ []) c.args.word c.in_default.in_default-own.rest

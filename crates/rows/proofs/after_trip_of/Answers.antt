use mathlib.Core.List.{[], ◌∷◌}
use Rattle.state.specs.declared.AfterTrip.TheVariants as AfterTrip
use Rattle.rows.proofs.Codes.{first-case}
use Rattle.rows.proofs.after_trip_of.Goals as goal

pub returns-in_default : goal.returns-in_default
returns-in_default c = first-case AfterTrip.Tick (AfterTrip.Watchdog ∷ AfterTrip.Stale ∷ AfterTrip.Expiry ∷ AfterTrip.Precondition ∷ AfterTrip.Return ∷ AfterTrip.Poll ∷ AfterTrip.Cancel ∷ AfterTrip.Submit ∷ []) c.args.word c.in_default.in_default-own.rest

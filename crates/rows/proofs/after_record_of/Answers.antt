use mathlib.Core.List.{[], ◌∷◌}
use Rattle.state.specs.declared.AfterRecord.TheVariants as AfterRecord
use Rattle.rows.proofs.Codes.{first-case}
use Rattle.rows.proofs.after_record_of.Goals as goal

pub returns-in_default : goal.returns-in_default
returns-in_default c = first-case AfterRecord.Fallback (AfterRecord.Lease ∷ AfterRecord.Executed ∷ AfterRecord.Failed ∷ AfterRecord.Rejected ∷ []) c.args.word c.in_default.in_default-own.rest

use lib.ListN.{drop}
use Rattle.model.specs.declared.Reason.TheVariants.{Ok}
use Rattle.model.specs.Reasons.{reasons}
use Rattle.rows.proofs.Codes.{first-case}
use Rattle.rows.proofs.reason_of.Goals as goal

pub returns-in_default : goal.returns-in_default
returns-in_default c = first-case Ok (drop 1 reasons) c.args.word c.in_default.in_default-own.rest

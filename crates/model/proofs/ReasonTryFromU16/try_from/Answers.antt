use native.Mathlib.Omega.{arith}
use Rattle.model.proofs.Reasons.{reason-unknown}
use Rattle.model.proofs.ReasonTryFromU16.try_from.Goals as goal

pub returns-in-28-to-65535 : goal.returns-in-28-to-65535
returns-in-28-to-65535 c = reason-unknown c.args.n (omega arith)

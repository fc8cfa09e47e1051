use native.Mathlib.Omega.{arith}
use Rattle.receipts.proofs.KindBits.{top_of}
use Rattle.receipts.proofs.top.Goals as goal

pub returns : goal.returns
returns c = top_of c.args.x c.requires (omega arith)

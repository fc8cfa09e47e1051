use Rattle.runtime.proofs.Alters.{refuses}
use Rattle.runtime.proofs.refuse.Goals as goal

pub returns : goal.returns
returns c = rw c.awaiting-rt.ensures (refuses c.args.rt.now c.args.reason c.requires)

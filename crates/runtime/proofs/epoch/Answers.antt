use Rattle.runtime.proofs.Showing.{epoch-reads}
use Rattle.runtime.proofs.epoch.Goals as goal

pub returns : goal.returns
returns c = rw c.number_shown.ensures (epoch-reads c.args.rt.now)

use Rattle.runtime.proofs.Showing.{flags-reads}
use Rattle.runtime.proofs.flags.Goals as goal

pub returns : goal.returns
returns c = rw c.number_shown.ensures (flags-reads c.args.rt.now)

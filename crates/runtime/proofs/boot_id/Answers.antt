use Rattle.runtime.proofs.Showing.{boot-reads}
use Rattle.runtime.proofs.boot_id.Goals as goal

pub returns : goal.returns
returns c = rw c.number_shown.ensures (boot-reads c.args.rt.now)

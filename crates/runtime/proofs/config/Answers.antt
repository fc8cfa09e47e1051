use Rattle.runtime.proofs.Showing.{config-reads}
use Rattle.runtime.proofs.config.Goals as goal

pub returns : goal.returns
returns c = rw c.config_shown.ensures (config-reads c.args.rt.now)

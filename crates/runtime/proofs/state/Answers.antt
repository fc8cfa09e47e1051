use Rattle.runtime.proofs.Showing.{state-reads}
use Rattle.runtime.proofs.state.Goals as goal

pub returns : goal.returns
returns c = rw c.state_shown.ensures (state-reads c.args.rt.now)

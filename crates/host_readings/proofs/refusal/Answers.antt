use Rattle.layout.specs.Layout.{runtime_in}
use Rattle.runtime.proofs.Showing.{refusal-answered}
use Rattle.host_readings.proofs.refusal.Goals as goal

pub returns : goal.returns
returns c = rw c.reason_in.ensures (refusal-answered (runtime_in _))

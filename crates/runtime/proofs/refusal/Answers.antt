use Rattle.runtime.proofs.Showing.{refusal-answered}
use Rattle.runtime.proofs.refusal.Goals as goal

pub returns : goal.returns
returns c = refusal-answered c.args.rt.now

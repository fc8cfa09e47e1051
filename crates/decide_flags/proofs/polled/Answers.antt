use Rattle.decide_flags.proofs.Stops.{polls-so}
use Rattle.decide_flags.proofs.polled.Goals as goal

pub returns : goal.returns
returns c = (
  c.stopped.ensures.0,
  let a = c.args in polls-so a.fixed a.numbers a.raised a.time c.stopped.ensures.1,
)

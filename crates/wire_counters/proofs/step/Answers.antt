use Rattle.wire_counters.proofs.Counters.{sound-after}
use Rattle.wire_counters.proofs.step.Goals as goal

pub returns : goal.returns
returns c =
    let g = c.step.ensures in
    (g.long, sound-after g c.requires.1)

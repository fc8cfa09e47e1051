use Rattle.replay.proofs.Kept.{emptied}
use Rattle.replay.proofs.ReplayRing.empty.Goals as goal

pub returns : goal.returns
returns c = rw c.blank-blank.ensures emptied

use Rattle.rows.specs.Rows.{replay_slot_of}
use Rattle.rows.proofs.replay_slot_of.Goals as goal

pub returns : goal.returns
unfolding replay_slot_of
returns c = rw c.presence_of.ensures

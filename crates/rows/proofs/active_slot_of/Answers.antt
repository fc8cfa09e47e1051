use Rattle.rows.specs.Rows.{active_slot_of}
use Rattle.rows.proofs.active_slot_of.Goals as goal

pub returns : goal.returns
unfolding active_slot_of
returns c = rw (c.presence_of.ensures, c.capability_of.ensures)

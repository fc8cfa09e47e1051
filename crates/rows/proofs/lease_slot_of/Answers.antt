use Rattle.rows.specs.Rows.{lease_slot_of}
use Rattle.rows.proofs.lease_slot_of.Goals as goal

pub returns : goal.returns
unfolding lease_slot_of
returns c = rw (c.as_u8.ensures, c.presence_of.ensures, c.bounds_of-second.ensures, c.bounds_of-first.ensures)

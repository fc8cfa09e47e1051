use Rattle.rows.specs.Rows.{carrying_of}
use Rattle.rows.proofs.carrying_of.Goals as goal

pub returns : goal.returns
unfolding carrying_of
returns c = rw (c.as_u32.ensures, c.held_below.ensures)

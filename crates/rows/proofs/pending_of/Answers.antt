use Rattle.rows.specs.Rows.{pending_of}
use Rattle.rows.proofs.pending_of.Goals as goal

pub returns : goal.returns
unfolding pending_of
returns c = rw (c.as_u32.ensures, c.call_kind_of.ensures)

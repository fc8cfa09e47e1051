use Rattle.rows.specs.Rows.{waiting_of}
use Rattle.rows.proofs.waiting_of.Goals as goal

pub returns : goal.returns
unfolding waiting_of
returns c = rw (c.after_record_of.ensures, c.awaited_of.ensures)

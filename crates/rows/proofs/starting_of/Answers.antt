use Rattle.rows.specs.Rows.{starting_of}
use Rattle.rows.proofs.starting_of.Goals as goal

pub returns : goal.returns
unfolding starting_of
returns c = rw (c.as_bool.ensures, c.stage_of.ensures)

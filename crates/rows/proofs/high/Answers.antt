use Rattle.rows.specs.Codes.{high_of}
use Rattle.rows.proofs.high.Goals as goal

pub returns : goal.returns
unfolding high_of
returns c = c.as_u32.ensures

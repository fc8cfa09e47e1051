use Rattle.rows.specs.Codes.{low_of}
use Rattle.rows.proofs.low.Goals as goal

pub returns : goal.returns
unfolding low_of
returns c = c.as_u32.ensures

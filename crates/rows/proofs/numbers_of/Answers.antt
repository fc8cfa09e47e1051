use Rattle.rows.specs.Rows.{numbers_of}
use Rattle.rows.proofs.numbers_of.Goals as goal

pub returns : goal.returns
unfolding numbers_of
returns c = rw (c.as_u8.ensures, c.as_u16.ensures, c.as_u32-2.ensures, c.as_u32.ensures, c.mode_of.ensures)

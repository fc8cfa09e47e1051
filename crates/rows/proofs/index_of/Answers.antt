use mathlib.Core.Path.{refl}
use Rattle.rows.specs.Rows.{index_of}
use Rattle.rows.proofs.index_of.Goals as goal

pub returns : goal.returns
unfolding index_of
returns c = refl

use mathlib.Core.Path.{refl}
use Rattle.rows.specs.Codes.{paired}
use Rattle.rows.proofs.pair.Goals as goal

pub returns : goal.returns
unfolding paired
returns c = refl

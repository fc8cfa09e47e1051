use mathlib.Core.Path.{refl}
use Rattle.runtime.proofs.Cells.{holds}
use Rattle.runtime.proofs.Alters.{senses-same}
use Rattle.runtime.proofs.sense_on.Goals as goal

pub sense-requires : goal.sense-requires
sense-requires c = c.requires

pub returns-then-is_same : goal.returns-then-is_same
returns-then-is_same c = rw c.awaiting-rt.ensures (senses-same c.args.rt.now c.args.flags c.args.time c.is_same.result c.requires (holds refl c.if-is_same.true) c.is_same.ensures)

pub returns-else-is_same : goal.returns-else-is_same
returns-else-is_same c = c.sense.ensures

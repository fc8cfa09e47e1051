use mathlib.Core.Path.{ap}
use lib.Dec.{eqb}
use Rattle.model.specs.declared.Capability.{Capability}
use Rattle.host_start.proofs.names_axis.Goals as goal

pub returns : goal.returns
returns c = ap (λ (x : Capability). eqb x.resource c.args.axis) c.listed_at-capability.ensures

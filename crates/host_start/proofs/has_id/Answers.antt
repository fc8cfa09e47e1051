use mathlib.Core.Path.{ap}
use lib.Dec.{eqb}
use Rattle.model.specs.declared.Capability.{Capability}
use Rattle.host_start.proofs.has_id.Goals as goal

pub returns : goal.returns
returns c = ap (λ (x : Capability). eqb x.id c.args.id) c.listed_at-capability.ensures

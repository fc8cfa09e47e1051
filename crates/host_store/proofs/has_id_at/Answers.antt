use mathlib.Core.Path.{ap}
use lib.Dec.{eqb}
use Rattle.model.specs.declared.Capability.{Capability}
use Rattle.host_store.proofs.has_id_at.Goals as goal

pub returns : goal.returns
returns c = ap (λ (x : Capability). eqb x.id c.args.id) c.capability_at-capability.ensures

use Rattle.runtime.proofs.Alters.{tightens}
use Rattle.runtime.proofs.tighten.Goals as goal

pub look_soonest-soonest-requires : goal.look_soonest-soonest-requires
look_soonest-soonest-requires c = c.requires

pub returns : goal.returns
returns c = tightens c.args.rt.now c.look_soonest-soonest.result c.requires c.look_soonest-soonest.ensures

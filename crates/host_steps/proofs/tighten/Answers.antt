use Rattle.host_steps.proofs.Courses.{tightens-in}
use Rattle.host_steps.proofs.tighten.Goals as goal

pub returns : goal.returns
returns c = tightens-in c.look_soonest-soonest.result c.look_soonest-soonest.ensures c.numbers_in-numbers.ensures _ c.sooner_at.ensures c.put_numbers.ensures

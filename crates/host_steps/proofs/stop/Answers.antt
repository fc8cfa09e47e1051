use Rattle.host_steps.proofs.Courses.{stop_goes}
use Rattle.host_steps.proofs.stop.Goals as goal

pub returns : goal.returns
returns c = stop_goes _ c.fixed_in-fixed.ensures c.numbers_in-numbers.ensures c.args.time c.stopped-course.ensures c.follow.ensures

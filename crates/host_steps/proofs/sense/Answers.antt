use Rattle.host_steps.proofs.Courses.{sense-goes}
use Rattle.host_steps.proofs.sense.Goals as goal

pub returns : goal.returns
returns c = sense-goes _ c.fixed_in-fixed.ensures c.numbers_in-numbers.ensures c.falling_in-falling.ensures c.args.flags c.args.time c.look_forbidden-axis.result c.look_forbidden-axis.ensures.0 c.sensed-course.ensures c.follow.ensures

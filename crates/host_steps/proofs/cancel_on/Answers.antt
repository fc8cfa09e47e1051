use Rattle.host_steps.proofs.Courses.{cancel-goes}
use Rattle.host_steps.proofs.cancel_on.Goals as goal

pub returns : goal.returns
returns c = cancel-goes _ c.numbers_in-numbers.ensures c.falling_in-falling.ensures c.args.owner c.args.lease_id c.args.time c.look_held-axis.result c.look_held-axis.ensures.0 c.canceled-course.ensures c.follow.ensures

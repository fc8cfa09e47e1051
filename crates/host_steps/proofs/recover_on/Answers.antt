use Rattle.host_steps.proofs.Courses.{recover-goes}
use Rattle.host_steps.proofs.recover_on.Goals as goal

pub returns : goal.returns
returns c = recover-goes _ c.fixed_in-fixed.ensures c.numbers_in-numbers.ensures c.falling_in-falling.ensures c.args.time c.recovered-course.ensures c.follow.ensures

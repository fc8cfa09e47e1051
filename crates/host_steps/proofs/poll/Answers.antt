use Rattle.host_steps.proofs.Courses.{poll-goes}
use Rattle.host_steps.proofs.poll.Goals as goal

pub returns : goal.returns
returns c = poll-goes _ c.fixed_in-fixed.ensures c.numbers_in-numbers.ensures c.args.raised c.args.time c.polled-course.ensures c.follow.ensures

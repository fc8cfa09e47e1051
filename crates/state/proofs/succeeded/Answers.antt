use Rattle.state.proofs.Courses.{succeeds-so}
use Rattle.state.proofs.succeeded.Goals as goal

pub returns : goal.returns
returns c = let a = c.args in succeeds-so a.numbers a.falling c.course_of.ensures

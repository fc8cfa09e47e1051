use Rattle.state.proofs.Courses.{returns-so}
use Rattle.state.proofs.returned.Goals as goal

pub returns : goal.returns
returns c = let a = c.args in returns-so a.numbers a.falling c.course_of.ensures

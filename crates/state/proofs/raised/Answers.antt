use Rattle.state.proofs.Courses.{raises-so}
use Rattle.state.proofs.raised.Goals as goal

pub returns : goal.returns
returns c = let a = c.args in raises-so a.numbers a.falling c.course_of.ensures

use Rattle.state.proofs.Courses.{goes-on-so}
use Rattle.state.proofs.goes_on.Goals as goal

pub returns : goal.returns
returns c = let a = c.args in goes-on-so a.numbers a.falling c.course_of.ensures

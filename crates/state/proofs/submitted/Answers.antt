use Rattle.state.proofs.Courses.{submits-so}
use Rattle.state.proofs.submitted.Goals as goal

pub returns : goal.returns
returns c = let a = c.args in submits-so a.numbers a.falling c.course_of.ensures

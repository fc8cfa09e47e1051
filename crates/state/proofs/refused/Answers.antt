use Rattle.state.proofs.Courses.{refuses-so}
use Rattle.state.proofs.refused.Goals as goal

pub returns : goal.returns
returns c = let a = c.args in refuses-so a.numbers a.falling a.reason c.course_of.ensures

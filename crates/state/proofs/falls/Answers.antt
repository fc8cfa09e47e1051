use Rattle.state.proofs.Courses.{falls-so}
use Rattle.state.proofs.falls.Goals as goal

pub returns : goal.returns
returns c =
    let a = c.args in
    falls-so a.numbers a.falling _ c.bump_counter.ensures c.course_of.ensures

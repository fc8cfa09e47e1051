use Rattle.state.proofs.Courses.{trips-so}
use Rattle.state.proofs.trips.Goals as goal

pub returns : goal.returns
returns c =
    let a = c.args in (
      c.falls.ensures.0,
      trips-so a.fixed a.numbers a.reason a.time a.after_trip a.at _ _ c.tripped.ensures c.first_used-axis.ensures
          (c.falls.ensures.1 a.fixed),
    )

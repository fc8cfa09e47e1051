use Rattle.decide_resume.proofs.Resumes.{trip-falls, trip-ends}
use Rattle.decide_resume.proofs.trip_next.Goals as goal

pub returns-then-next_axis-lt8 : goal.returns-then-next_axis-lt8
returns-then-next_axis-lt8 c =
    let a = c.args in
    let k = c.requires in
    trip-falls a.fixed a.numbers a.falling a.axis a.lease _ k.0 k.1 _ c.first_used-next_axis.ensures c.if-next_axis-lt8.true
    (c.falls.ensures.1 a.fixed)

pub returns : goal.returns
returns c =
    let a = c.args in
    trip-ends a.fixed a.numbers a.falling a.axis a.lease _ _ c.first_used-next_axis.ensures c.if-next_axis-lt8.false c.after_trip.ensures

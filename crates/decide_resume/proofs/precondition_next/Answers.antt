use Prim.Native.Nat.{◌+◌}
use Rattle.decide_resume.proofs.Resumes.{forbids-on, precondition-trips}
use Rattle.decide_resume.proofs.precondition_next.Goals as goal

pub returns-then-ok : goal.returns-then-ok
returns-then-ok c =
    let a = c.args in
    let inside = c.requires in
    forbids-on a.fixed a.numbers a.falling a.axis a.lease _ a.ok c.if-ok.true (c.preconditions.ensures.1 a.fixed (a.falling.axis + 1) inside)

pub returns : goal.returns
returns c =
    let a = c.args in
    precondition-trips a.fixed a.numbers a.falling a.axis a.lease _ a.ok c.if-ok.false (c.trips.ensures.1 c.requires.axis)

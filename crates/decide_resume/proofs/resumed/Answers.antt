use native.Mathlib.Omega.{arith}
use Rattle.state.specs.State.{after_fallback_of}
use Rattle.state.specs.declared.AfterFallback.TheVariants.{Expiry, Precondition, Recovery, Cancel}
use Rattle.decide_resume.proofs.Resumes.{resumes-trip, resumes-by, resumes-at-once}
use Rattle.decide_resume.proofs.resumed.Goals as goal

pub trip_next-requires : goal.trip_next-requires
trip_next-requires c = (c.requires, c.in-Trip.is)

pub recoveries-requires : goal.recoveries-requires
recoveries-requires c = omega (arith, c.requires.axis)

pub returns-in-Trip : goal.returns-in-Trip
returns-in-Trip c =
    let a = c.args in
    resumes-trip a.fixed a.numbers a.falling a.axis a.lease _ a.ok c.in-Trip.is c.trip_next.ensures

pub returns-in-Expiry : goal.returns-in-Expiry
returns-in-Expiry c =
    let a = c.args in
    resumes-by a.fixed a.numbers a.falling a.axis a.lease _ Expiry a.ok c.in-Expiry.is c.expiry_next.ensures

pub returns-in-Precondition : goal.returns-in-Precondition
returns-in-Precondition c =
    let a = c.args in
    resumes-by a.fixed a.numbers a.falling a.axis a.lease _ Precondition a.ok c.in-Precondition.is c.precondition_next.ensures

pub returns-in-Recovery : goal.returns-in-Recovery
unfolding after_fallback_of
returns-in-Recovery c =
    let a = c.args in
    resumes-at-once a.fixed a.numbers a.falling a.axis a.lease _ Recovery a.ok c.in-Recovery.is
    (c.recoveries.ensures.1 c.requires)

pub returns-in-Cancel : goal.returns-in-Cancel
returns-in-Cancel c =
    let a = c.args in
    resumes-at-once a.fixed a.numbers a.falling a.axis a.lease _ Cancel a.ok c.in-Cancel.is c.cancel_end.ensures

use Prim.Native.Nat.{◌+◌}
use Rattle.decide_resume.proofs.Resumes.{trip-ticks, trip-returns, trip-polls, trip-refuses, trip-submits, trip-watches, trip-stale, trip-expires, trip-forbids}
use Rattle.decide_resume.proofs.after_trip.Goals as goal

pub returns-in-Tick : goal.returns-in-Tick
returns-in-Tick c =
    let a = c.args in
    let inside = c.requires in
    trip-ticks a.fixed a.numbers a.falling a.axis a.lease _ c.in-Tick.is (c.goes_on.ensures a.fixed inside)

pub returns-in-Watchdog : goal.returns-in-Watchdog
returns-in-Watchdog c =
    let a = c.args in
    let inside = c.requires in
    trip-watches a.fixed a.numbers a.falling a.axis a.lease _ c.in-Watchdog.is (c.after_watchdog.ensures inside)

pub returns-in-Stale : goal.returns-in-Stale
returns-in-Stale c =
    let a = c.args in
    let inside = c.requires in
    trip-stale a.fixed a.numbers a.falling a.axis a.lease _ c.in-Stale.is (c.expiries.ensures a.fixed 0 inside)

pub returns-in-Expiry : goal.returns-in-Expiry
returns-in-Expiry c =
    let a = c.args in
    let inside = c.requires in
    trip-expires a.fixed a.numbers a.falling a.axis a.lease _ c.in-Expiry.is (c.expiries-in-Expiry.ensures a.fixed (a.falling.at + 1) inside)

pub returns-in-Precondition : goal.returns-in-Precondition
returns-in-Precondition c =
    let a = c.args in
    let inside = c.requires in
    trip-forbids a.fixed a.numbers a.falling a.axis a.lease _ c.in-Precondition.is (c.preconditions.ensures.1 a.fixed (a.falling.at + 1) inside)

pub returns-in-Return : goal.returns-in-Return
returns-in-Return c =
    let a = c.args in
    let inside = c.requires in
    trip-returns a.fixed a.numbers a.falling a.axis a.lease _ c.in-Return.is (c.returned.ensures.1 a.fixed inside)

pub returns-in-Poll : goal.returns-in-Poll
returns-in-Poll c =
    let a = c.args in
    let inside = c.requires in
    trip-polls a.fixed a.numbers a.falling a.axis a.lease _ c.in-Poll.is (c.raised.ensures.1 a.fixed inside)

pub returns-in-Cancel : goal.returns-in-Cancel
returns-in-Cancel c =
    let a = c.args in
    let inside = c.requires in
    trip-refuses a.fixed a.numbers a.falling a.axis a.lease _ c.in-Cancel.is (c.refused.ensures.1 a.fixed inside)

pub returns-in-Submit : goal.returns-in-Submit
returns-in-Submit c =
    let a = c.args in
    let inside = c.requires in
    trip-submits a.fixed a.numbers a.falling a.axis a.lease _ c.in-Submit.is (c.submitted.ensures.1 a.fixed inside)

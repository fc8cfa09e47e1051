use native.Mathlib.Omega.{arith}
use Rattle.decide_resume.specs.Searches.{TripSeeks}
use Rattle.decide_resume.proofs.search_after_trip.Goals as goal

pub returns-in-Tick : goal.returns-in-Tick
unfolding TripSeeks
returns-in-Tick c = (simp c.in-Tick.is tt, omega (arith, c.nothing.ensures))

pub returns-in-Watchdog : goal.returns-in-Watchdog
unfolding TripSeeks
returns-in-Watchdog c = (simp c.in-Watchdog.is c.due_from.ensures, omega (arith, c.due_from.ensures.1))

pub returns-in-Stale : goal.returns-in-Stale
unfolding TripSeeks
returns-in-Stale c = (simp c.in-Stale.is c.due_from-in-Stale.ensures, omega (arith, c.due_from-in-Stale.ensures.1))

pub returns-in-Expiry : goal.returns-in-Expiry
unfolding TripSeeks
returns-in-Expiry c = (simp c.in-Expiry.is c.due_from-in-Expiry.ensures, omega (arith, c.due_from-in-Expiry.ensures.1, c.requires.at))

pub returns-in-Precondition : goal.returns-in-Precondition
unfolding TripSeeks
returns-in-Precondition c = (simp c.in-Precondition.is c.forbidden_from.ensures, omega (arith, c.forbidden_from.ensures.1, c.requires.at))

pub returns-in-Return : goal.returns-in-Return
unfolding TripSeeks
returns-in-Return c = (simp c.in-Return.is tt, omega (arith, c.nothing-in-Return.ensures))

pub returns-in-Poll : goal.returns-in-Poll
unfolding TripSeeks
returns-in-Poll c = (simp c.in-Poll.is tt, omega (arith, c.nothing-in-Poll.ensures))

pub returns-in-Cancel : goal.returns-in-Cancel
unfolding TripSeeks
returns-in-Cancel c = (simp c.in-Cancel.is tt, omega (arith, c.nothing-in-Cancel.ensures))

pub returns-in-Submit : goal.returns-in-Submit
unfolding TripSeeks
returns-in-Submit c = (simp c.in-Submit.is tt, omega (arith, c.nothing-in-Submit.ensures))

use native.Mathlib.Omega.{arith}
use Rattle.decide_resume.specs.Searches.{SeeksAfter}
use Rattle.decide_resume.proofs.search_after.Goals as goal

pub returns-in-Trip : goal.returns-in-Trip
unfolding SeeksAfter
returns-in-Trip c = (simp c.in-Trip.is c.search_after_trip.ensures.0, c.search_after_trip.ensures.1)

pub returns-in-Expiry : goal.returns-in-Expiry
unfolding SeeksAfter
returns-in-Expiry c = (simp c.in-Expiry.is c.due_from.ensures, omega (arith, c.due_from.ensures.1, c.requires.axis))

pub returns-in-Precondition : goal.returns-in-Precondition
unfolding SeeksAfter
returns-in-Precondition c = (simp c.in-Precondition.is c.forbidden_from.ensures, omega (arith, c.forbidden_from.ensures.1, c.requires.axis))

pub returns-in-Recovery : goal.returns-in-Recovery
unfolding SeeksAfter
returns-in-Recovery c = (simp c.in-Recovery.is tt, omega (arith, c.nothing.ensures))

pub returns-in-Cancel : goal.returns-in-Cancel
unfolding SeeksAfter
returns-in-Cancel c = (simp c.in-Cancel.is tt, omega (arith, c.nothing-in-Cancel.ensures))

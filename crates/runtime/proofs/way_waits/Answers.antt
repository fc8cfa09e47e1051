use Rattle.runtime.proofs.way_waits.Goals as goal

pub returns-in-Falls : goal.returns-in-Falls
returns-in-Falls c = simp c.in-Falls.is

pub returns-in-Ends : goal.returns-in-Ends
returns-in-Ends c = simp c.in-Ends.is

pub returns-in-GoesOn : goal.returns-in-GoesOn
returns-in-GoesOn c = simp c.in-GoesOn.is

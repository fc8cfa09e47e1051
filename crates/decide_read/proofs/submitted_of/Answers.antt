use Rattle.state.specs.State.{answered_at}
use Rattle.decide_read.proofs.submitted_of.Goals as goal

pub returns-in-Fallback : goal.returns-in-Fallback
unfolding answered_at
returns-in-Fallback c = simp c.in-Fallback.is

pub returns-in-Lease : goal.returns-in-Lease
unfolding answered_at
returns-in-Lease c = simp c.in-Lease.is

pub returns-in-Executed : goal.returns-in-Executed
unfolding answered_at
returns-in-Executed c = simp c.in-Executed.is

pub returns-in-Failed : goal.returns-in-Failed
unfolding answered_at
returns-in-Failed c = simp c.in-Failed.is

pub returns-in-Rejected : goal.returns-in-Rejected
unfolding answered_at
returns-in-Rejected c = simp c.in-Rejected.is

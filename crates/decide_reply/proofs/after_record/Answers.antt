use mathlib.Core.Path.{◌∙◌}
use Rattle.decide_reply.proofs.Replies.{resumes, leases, submits, fails}
use Rattle.decide_reply.proofs.after_record.Goals as goal

pub returns-in-Fallback : goal.returns-in-Fallback
returns-in-Fallback c = λ s k f n e a. resumes s e (a ∙ c.in-Fallback.is)

pub returns-in-Lease : goal.returns-in-Lease
returns-in-Lease c = λ s k f n e a. leases s e k (a ∙ c.in-Lease.is)

pub returns-in-Executed : goal.returns-in-Executed
returns-in-Executed c = λ s k f n e a. submits s e k (a ∙ c.in-Executed.is)

pub returns-in-Failed : goal.returns-in-Failed
returns-in-Failed c = λ s k f n e a. fails s e (a ∙ c.in-Failed.is)

pub returns-in-Rejected : goal.returns-in-Rejected
returns-in-Rejected c = λ s k f n e a. c.storms_if.ensures s k f n e (a ∙ c.in-Rejected.is)

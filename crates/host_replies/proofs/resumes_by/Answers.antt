use borrow.Author.Tests.{not-false}
use Rattle.host_replies.specs.Altered.{ResumesAs}
use Rattle.host_replies.proofs.resumes_by.Goals as goal

pub returns-then-not-ok : goal.returns-then-not-ok
unfolding ResumesAs
returns-then-not-ok c = tt

pub returns-in-Trip : goal.returns-in-Trip
unfolding ResumesAs
returns-in-Trip c = tt

pub returns-in-Expiry : goal.returns-in-Expiry
unfolding ResumesAs
returns-in-Expiry c = (c.in-Expiry.is, not-false _ c.if-not-ok.false-raw)

pub returns-in-Precondition : goal.returns-in-Precondition
unfolding ResumesAs
returns-in-Precondition c = tt

pub returns-in-Recovery : goal.returns-in-Recovery
unfolding ResumesAs
returns-in-Recovery c = tt

pub returns-in-Cancel : goal.returns-in-Cancel
unfolding ResumesAs
returns-in-Cancel c = (c.in-Cancel.is, not-false _ c.if-not-ok.false-raw)

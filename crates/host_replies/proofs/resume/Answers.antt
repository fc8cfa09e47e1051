use Rattle.host_steps.proofs.Courses.{concluded}
use Rattle.host_replies.proofs.resume.Goals as goal

pub returns : goal.returns
returns c = concluded c.resume_way-onward.ensures c.conclude.ensures

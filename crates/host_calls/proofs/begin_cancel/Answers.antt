use Rattle.host_steps.proofs.Courses.{concluded}
use Rattle.host_calls.proofs.Callings.{cancel-quiet, cancel-busy}
use Rattle.host_calls.proofs.begin_cancel.Goals as goal

pub returns-in-Quiet : goal.returns-in-Quiet
returns-in-Quiet c = cancel-quiet c.args.time c.begin-begun.ensures c.args.owner c.args.lease c.in-Quiet.is c.cancel_on.ensures

pub returns-in-Busy : goal.returns-in-Busy
returns-in-Busy c = cancel-busy c.args.time c.begin-begun.ensures c.args.owner c.args.lease c.in-Busy.is c.asking.ensures c.put_pending.ensures (concluded c.supervise-onward.ensures c.conclude.ensures)

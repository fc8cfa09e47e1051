use Rattle.host_steps.proofs.Courses.{run-quiet, run-busy, concluded}
use Rattle.host_steps.proofs.run.Goals as goal

pub returns-in-Quiet : goal.returns-in-Quiet
returns-in-Quiet c = run-quiet c.args.time c.pending_in-pending.ensures _ c.at_time.ensures c.put_pending.ensures c.begin-begun.ensures c.in-Quiet.is c.go_on.ensures

pub returns-in-Busy : goal.returns-in-Busy
returns-in-Busy c = run-busy c.args.time c.pending_in-pending.ensures _ c.at_time.ensures c.put_pending.ensures c.begin-begun.ensures c.in-Busy.is (concluded c.supervise-onward.ensures c.conclude.ensures)

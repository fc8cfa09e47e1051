use Rattle.host_steps.proofs.Courses.{concluded}
use Rattle.host_calls.proofs.Callings.{tick-quiet, tick-busy}
use Rattle.host_calls.proofs.tick_on.Goals as goal

pub returns-in-Quiet : goal.returns-in-Quiet
returns-in-Quiet c = tick-quiet c.args.time c.begin-begun.ensures c.in-Quiet.is

pub returns-in-Busy : goal.returns-in-Busy
returns-in-Busy c = tick-busy c.args.time c.begin-begun.ensures c.in-Busy.is c.asking.ensures c.put_pending.ensures (concluded c.supervise-onward.ensures c.conclude.ensures)

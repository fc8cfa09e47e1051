use Rattle.host_calls.proofs.Callings.{away-steps, stop-steps}
use Rattle.host_calls.proofs.emergency_stop.Goals as goal

pub returns-then-may_begin : goal.returns-then-may_begin
returns-then-may_begin c = stop-steps _ c.starting_in-starting.ensures c.waiting_in-waiting.ensures c.may_begin.ensures c.if-may_begin.true c.args.time c.stop.ensures

pub returns : goal.returns
returns c = away-steps _ c.starting_in-starting.ensures c.waiting_in-waiting.ensures c.may_begin.ensures _ c.if-may_begin.false c.turned_away.ensures

use Rattle.host_calls.proofs.Callings.{away-steps, acquire-steps}
use Rattle.host_calls.proofs.acquire.Goals as goal

pub returns-then-may_begin : goal.returns-then-may_begin
returns-then-may_begin c = acquire-steps _ c.starting_in-starting.ensures c.waiting_in-waiting.ensures c.may_begin.ensures c.if-may_begin.true c.args.time c.run.ensures c.args.request c.put_request.ensures c.asking.ensures c.put_pending.ensures

pub returns : goal.returns
returns c = away-steps _ c.starting_in-starting.ensures c.waiting_in-waiting.ensures c.may_begin.ensures _ c.if-may_begin.false c.turned_away.ensures

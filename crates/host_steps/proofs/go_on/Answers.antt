use Rattle.host_steps.proofs.Courses.{on-tick, on-sense, on-recover, on-acquire, on-renew, on-cancel, on-submit}
use Rattle.host_steps.proofs.go_on.Goals as goal

pub returns-in-Tick : goal.returns-in-Tick
returns-in-Tick c = on-tick c.pending_in-pending.ensures c.in-Tick.is _ c.awaiting.ensures c.put_waiting.ensures

pub returns-in-UpdateState : goal.returns-in-UpdateState
returns-in-UpdateState c = on-sense c.pending_in-pending.ensures c.in-UpdateState.is c.sense_on.ensures

pub returns-in-RecoverLocal : goal.returns-in-RecoverLocal
returns-in-RecoverLocal c = on-recover c.pending_in-pending.ensures c.in-RecoverLocal.is c.recover_on.ensures

pub returns-in-Acquire : goal.returns-in-Acquire
returns-in-Acquire c = on-acquire c.pending_in-pending.ensures c.in-Acquire.is c.acquire_on.ensures

pub returns-in-Renew : goal.returns-in-Renew
returns-in-Renew c = on-renew c.pending_in-pending.ensures c.in-Renew.is c.renew_on.ensures

pub returns-in-Cancel : goal.returns-in-Cancel
returns-in-Cancel c = on-cancel c.pending_in-pending.ensures c.in-Cancel.is c.cancel_on.ensures

pub returns-in-Submit : goal.returns-in-Submit
returns-in-Submit c = on-submit c.pending_in-pending.ensures c.in-Submit.is c.submit_on.ensures

use Rattle.runtime.proofs.Alters.{returned}
use Rattle.runtime.proofs.Onward.{gone-acquire, gone-cancel, gone-recover, gone-renew, gone-sense, gone-submit, gone-tick}
use Rattle.runtime.proofs.go_on.Goals as goal

pub sense_on-requires : goal.sense_on-requires
sense_on-requires c = c.requires

pub recover_on-requires : goal.recover_on-requires
recover_on-requires c = c.requires

pub acquire_on-requires : goal.acquire_on-requires
acquire_on-requires c = c.requires

pub renew_on-requires : goal.renew_on-requires
renew_on-requires c = c.requires

pub cancel_on-requires : goal.cancel_on-requires
cancel_on-requires c = c.requires

pub submit_on-requires : goal.submit_on-requires
submit_on-requires c = c.requires

pub returns-in-Tick : goal.returns-in-Tick
returns-in-Tick c = gone-tick c.args.rt.now _ _ c.in-Tick.is (rw c.awaiting-rt.ensures (returned c.args.rt.now c.requires))

pub returns-in-UpdateState : goal.returns-in-UpdateState
returns-in-UpdateState c = gone-sense c.args.rt.now c.sense_on.new.rt c.sense_on.result c.in-UpdateState.is c.sense_on.ensures

pub returns-in-RecoverLocal : goal.returns-in-RecoverLocal
returns-in-RecoverLocal c = gone-recover c.args.rt.now c.recover_on.new.rt c.recover_on.result c.in-RecoverLocal.is c.recover_on.ensures

pub returns-in-Acquire : goal.returns-in-Acquire
returns-in-Acquire c = gone-acquire c.args.rt.now c.acquire_on.new.rt c.acquire_on.result c.in-Acquire.is c.acquire_on.ensures

pub returns-in-Renew : goal.returns-in-Renew
returns-in-Renew c = gone-renew c.args.rt.now c.renew_on.new.rt c.renew_on.result c.in-Renew.is c.renew_on.ensures

pub returns-in-Cancel : goal.returns-in-Cancel
returns-in-Cancel c = gone-cancel c.args.rt.now c.cancel_on.new.rt c.cancel_on.result c.in-Cancel.is c.cancel_on.ensures

pub returns-in-Submit : goal.returns-in-Submit
returns-in-Submit c = gone-submit c.args.rt.now c.submit_on.new.rt c.submit_on.result c.in-Submit.is c.submit_on.ensures

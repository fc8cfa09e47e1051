use Rattle.runtime.proofs.Looks.{soonest-none, soonest-all}
use Rattle.host_store.proofs.Finds.{soonest-then}
use Rattle.host_store.proofs.look_soonest.Goals as goal

pub loop-i-init : goal.loop-i-init
loop-i-init c = λ good. soonest-none _ _

pub loop-i-preserved : goal.loop-i-preserved
loop-i-preserved c =
    soonest-then _ _ _ _ _ _ c.loop-i-test.true c.lease_at.ensures c.active_at.ensures
    c.soonest_step-soonest.ensures
    c.loop-i.invariant

pub returns : goal.returns
returns c = λ good. soonest-all _ good _ _ c.loop-i-test.false (c.loop-i.invariant good)

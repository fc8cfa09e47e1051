use Rattle.runtime.proofs.Cells.{same_at, step-nearer}
use Rattle.model.specs.Records.{no_lease, no_active}
use Rattle.runtime.proofs.Looks.{low-lease, low-order, soonest-all, soonest-none, soonest-on}
use Rattle.runtime.proofs.look_soonest.Goals as goal

pub returns : goal.returns
returns c = soonest-all c.args.rt.now c.requires (c.loop-i.i) (c.loop-i.soonest) c.loop-i-test.false (c.loop-i.invariant.so_far)

pub loop-i-init : goal.loop-i-init
loop-i-init c = record { so_far = soonest-none c.args.rt.now _ }

pub loop-i-preserved : goal.loop-i-preserved
loop-i-preserved c = record { so_far = rw (c.soonest_step-soonest.ensures, same_at _ no_lease c.args.rt.now.leases c.loop-i.i (low-lease c.args.rt.now c.requires c.loop-i.i c.loop-i-test.true), same_at _ no_active c.args.rt.now.active c.loop-i.i (low-order c.args.rt.now c.requires c.loop-i.i c.loop-i-test.true)) (soonest-on c.args.rt.now c.requires (c.loop-i.i) (c.loop-i.soonest) c.loop-i-test.true (c.loop-i.invariant.so_far)) }

pub loop-i-smaller : goal.loop-i-smaller
loop-i-smaller c = step-nearer 8 (c.loop-i.i) c.loop-i-test.true

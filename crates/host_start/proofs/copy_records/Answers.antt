use native.Mathlib.Omega.{arith}
use Rattle.host_start.proofs.Listings.{copied_none, copied_more, copied_all}
use Rattle.host_start.proofs.copy_records.Goals as goal

pub loop-i-init : goal.loop-i-init
loop-i-init c = copied_none _

pub listed_at-capability-requires : goal.listed_at-capability-requires
listed_at-capability-requires c = (omega (arith, c.requires, c.loop-i.invariant.same.long), c.loop-i-test.true)

pub put_capability-requires : goal.put_capability-requires
put_capability-requires c = (omega (arith, c.requires, c.loop-i.invariant.same.long), c.loop-i-test.true)

pub loop-i-preserved : goal.loop-i-preserved
loop-i-preserved c = copied_more _ _ _ _ _ c.loop-i-test.true c.loop-i.invariant c.listed_at-capability.ensures c.put_capability.ensures

pub shape_of-state : goal.shape_of-state
shape_of-state c = c.loop-i.invariant.same.long

pub returns : goal.returns
returns c = copied_all _ _ _ c.loop-i-test.false c.loop-i.invariant

use native.Mathlib.Omega.{arith}
use Rattle.host_start.proofs.Listings.{cleared-none, cleared_more, cleared-all}
use Rattle.host_start.proofs.clear.Goals as goal

pub loop-i-init : goal.loop-i-init
loop-i-init c = cleared-none _

pub bounds-state-i : goal.bounds-state-i
bounds-state-i c = omega (arith, c.requires, c.loop-i.invariant.long, c.loop-i-test.true)

pub loop-i-preserved : goal.loop-i-preserved
loop-i-preserved c = cleared_more _ _ _ c.requires c.loop-i-test.true c.loop-i.invariant

pub shape_of-state : goal.shape_of-state
shape_of-state c = c.loop-i.invariant.long

pub returns : goal.returns
returns c = cleared-all _ _ _ c.loop-i-test.false c.loop-i.invariant

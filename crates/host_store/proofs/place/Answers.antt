use native.Mathlib.Omega.{arith}
use Rattle.layout.proofs.Chains.{long_after}
use Rattle.layout.proofs.Fields.{index-headed}
use Rattle.host_store.proofs.Placing.{places}
use Rattle.host_store.proofs.place.Goals as goal

pub rejected_at-oldest_rejected-requires : goal.rejected_at-oldest_rejected-requires
rejected_at-oldest_rejected-requires c = (c.requires, omega (arith, (index-headed _ c.index_in-index.ensures).0))

pub others_at-oldest_other-requires : goal.others_at-oldest_other-requires
others_at-oldest_other-requires c = (c.requires, omega (arith, (index-headed _ c.index_in-index.ensures).1))

pub placed-change-requires : goal.placed-change-requires
placed-change-requires c = index-headed _ c.index_in-index.ensures

pub put_index-requires : goal.put_index-requires
put_index-requires c = (c.requires, c.placed-change.ensures.heads)

pub overflow_cast-change : goal.overflow_cast-change
overflow_cast-change c = omega (arith, c.placed-change.ensures.slot)

pub put_rejected-requires : goal.put_rejected-requires
put_rejected-requires c = (long_after c.requires c.put_index.ensures.same, c.placed-change.ensures.rejected)

pub overflow_cast-change-2 : goal.overflow_cast-change-2
overflow_cast-change-2 c = omega (arith, c.placed-change.ensures.slot)

pub put_others-requires : goal.put_others-requires
put_others-requires c = (long_after (long_after c.requires c.put_index.ensures.same) c.put_rejected.ensures.same, c.placed-change.ensures.others)

pub shape_of-state : goal.shape_of-state
shape_of-state c = omega (arith, c.put_index.ensures.same.long, c.put_rejected.ensures.same.long, c.put_others.ensures.same.long)

pub returns : goal.returns
returns c = places _ c.index_in-index.ensures c.rejected_at-oldest_rejected.ensures c.others_at-oldest_other.ensures c.placed-change.ensures c.put_index.ensures c.put_rejected.ensures c.put_others.ensures

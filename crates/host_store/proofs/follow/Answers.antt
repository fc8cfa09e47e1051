use native.Mathlib.Omega.{arith}
use Rattle.layout.proofs.Chains.{long_after}
use Rattle.host_store.proofs.Placing.{follows}
use Rattle.host_store.proofs.follow.Goals as goal

pub put_numbers-requires : goal.put_numbers-requires
put_numbers-requires c = long_after (long_after c.requires c.put_revoked.ensures.same) c.put_falling.ensures.becomes.same

pub put_waiting-requires : goal.put_waiting-requires
put_waiting-requires c = long_after (long_after (long_after c.requires c.put_revoked.ensures.same) c.put_falling.ensures.becomes.same) c.put_numbers.ensures.same

pub put_reason-requires : goal.put_reason-requires
put_reason-requires c = long_after (long_after (long_after (long_after c.requires c.put_revoked.ensures.same) c.put_falling.ensures.becomes.same) c.put_numbers.ensures.same) c.put_waiting.ensures.same

pub clear_lease-requires : goal.clear_lease-requires
clear_lease-requires c = (long_after (long_after (long_after (long_after (long_after c.requires c.put_revoked.ensures.same) c.put_falling.ensures.becomes.same) c.put_numbers.ensures.same) c.put_waiting.ensures.same) c.put_reason.ensures.same, c.axis_or_last-axis.ensures.1)

pub clear_active-requires : goal.clear_active-requires
clear_active-requires c = (long_after (long_after (long_after (long_after (long_after (long_after c.requires c.put_revoked.ensures.same) c.put_falling.ensures.becomes.same) c.put_numbers.ensures.same) c.put_waiting.ensures.same) c.put_reason.ensures.same) c.clear_lease.ensures.same, c.axis_or_last-axis.ensures.1)

pub shape_of-state : goal.shape_of-state
shape_of-state c = omega (arith, c.put_revoked.ensures.same.long, c.put_falling.ensures.becomes.same.long, c.put_numbers.ensures.same.long, c.put_waiting.ensures.same.long, c.put_reason.ensures.same.long, c.clear_lease.ensures.same.long, c.clear_active.ensures.same.long)

pub returns : goal.returns
returns c =
    follows _ c.cleared.ensures c.axis_or_last-axis.ensures.0 c.lease_at-slot.ensures c.revoked_in-revoked.ensures c.numbers_in-numbers.ensures c.revoked_by.ensures c.held_without.ensures c.numbers_after.ensures c.way_waits.ensures c.put_falling.ensures.falling_value
    c.put_revoked.ensures c.put_falling.ensures.becomes c.put_numbers.ensures c.put_waiting.ensures c.put_reason.ensures c.clear_lease.ensures c.clear_active.ensures

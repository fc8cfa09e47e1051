use Rattle.host_steps.proofs.Orders.{admits-then, rejects-then}
use Rattle.host_steps.proofs.submit_on.Goals as goal

pub look_hit-hit-requires : goal.look_hit-hit-requires
look_hit-hit-requires c = c.requires

pub admit-requires : goal.admit-requires
admit-requires c = (c.requires, c.look_place-at.ensures.1)

pub reject-requires : goal.reject-requires
reject-requires c = c.requires

pub returns-in-Passed : goal.returns-in-Passed
returns-in-Passed c =
    admits-then _ _ _ _ _ c.submission_in-submission.ensures c.fixed_in-fixed.ensures c.numbers_in-numbers.ensures c.look_place-at.ensures.0 c.capability_at-capability.ensures c.axis_or_spare.ensures.0
    c.lease_at-slot.ensures c.early_check-early.ensures c.is_passed-wanted.ensures c.look_hit-hit.ensures c.order_check-ruling.ensures c.in-Passed.is c.admit.ensures

pub returns-in-Failed : goal.returns-in-Failed
returns-in-Failed c =
    rejects-then _ _ _ _ _ c.submission_in-submission.ensures c.fixed_in-fixed.ensures c.numbers_in-numbers.ensures c.look_place-at.ensures.0 c.capability_at-capability.ensures c.axis_or_spare.ensures.0
    c.lease_at-slot.ensures c.early_check-early.ensures c.is_passed-wanted.ensures c.look_hit-hit.ensures c.order_check-ruling.ensures c.resource_of-resource.ensures c.in-Failed.is c.reject.ensures

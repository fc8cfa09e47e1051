use Rattle.host_steps.proofs.Leases.{acquire-passed, acquire-failed}
use Rattle.host_steps.proofs.acquire_on.Goals as goal

pub returns-in-Passed : goal.returns-in-Passed
returns-in-Passed c = acquire-passed _ _ _ _ _ _ _ c.args.time c.acquire_check-ruling.result c.request_in-request.ensures c.fixed_in-fixed.ensures c.numbers_in-numbers.ensures c.look_allowed-allowed.ensures c.axis_or_spare.ensures.0 c.lease_at-slot.ensures c.acquire_check-ruling.ensures c.in-Passed.is c.grant.ensures

pub returns-in-Failed : goal.returns-in-Failed
returns-in-Failed c = acquire-failed _ _ _ _ _ _ _ c.args.time c.acquire_check-ruling.result c.request_in-request.ensures c.fixed_in-fixed.ensures c.numbers_in-numbers.ensures c.look_allowed-allowed.ensures c.axis_or_spare.ensures.0 c.lease_at-slot.ensures c.acquire_check-ruling.ensures c.in-Failed.is c.refuse.ensures

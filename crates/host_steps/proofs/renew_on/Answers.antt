use Rattle.host_steps.proofs.Leases.{renew-passed, renew-failed}
use Rattle.host_steps.proofs.renew_on.Goals as goal

pub returns-in-Passed : goal.returns-in-Passed
returns-in-Passed c = renew-passed _ _ _ _ _ _ c.renew_check-ruling.result c.renewal_in-renewal.ensures c.fixed_in-fixed.ensures c.numbers_in-numbers.ensures c.look_held-axis.ensures c.lease_at-slot.ensures c.renew_check-ruling.ensures c.in-Passed.is c.lengthen.ensures

pub returns-in-Failed : goal.returns-in-Failed
returns-in-Failed c = renew-failed _ _ _ _ _ _ c.renew_check-ruling.result c.renewal_in-renewal.ensures c.fixed_in-fixed.ensures c.numbers_in-numbers.ensures c.look_held-axis.ensures c.lease_at-slot.ensures c.renew_check-ruling.ensures c.in-Failed.is c.refuse.ensures

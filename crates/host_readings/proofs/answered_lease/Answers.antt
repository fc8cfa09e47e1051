use Rattle.host_readings.proofs.Showing.{lease-seen}
use Rattle.host_readings.proofs.answered_lease.Goals as goal

pub returns : goal.returns
returns c = lease-seen _ c.axis_in.ensures c.axis_or_spare.ensures.0 c.lease_at-slot.ensures c.lease_in.ensures

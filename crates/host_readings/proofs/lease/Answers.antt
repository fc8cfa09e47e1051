use Rattle.host_readings.proofs.Showing.{lease-shows}
use Rattle.host_readings.proofs.lease.Goals as goal

pub returns : goal.returns
returns c = lease-shows _ c.starting_in-starting.ensures c.args.axis _ c.axis_or_spare.ensures.0 c.lease_at-slot.ensures c.lease_shown.ensures

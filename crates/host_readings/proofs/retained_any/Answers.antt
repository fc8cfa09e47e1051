use Rattle.host_readings.proofs.Showing.{not-numbered}
use Rattle.host_readings.proofs.retained_any.Goals as goal

pub retained-requires : goal.retained-requires
retained-requires c = c.is_numbered.ensures.yes c.if-is_numbered.true

pub returns : goal.returns
returns c = not-numbered c.is_numbered.ensures c.if-is_numbered.false

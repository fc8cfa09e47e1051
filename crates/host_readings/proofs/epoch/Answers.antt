use Rattle.runtime.proofs.Showing.{epoch-reads}
use Rattle.host_readings.proofs.epoch.Goals as goal

pub returns : goal.returns
returns c = rw (c.number_shown.ensures, c.starting_in-starting.ensures, c.numbers_in-numbers.ensures) (epoch-reads _)

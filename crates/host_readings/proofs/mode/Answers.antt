use Rattle.runtime.proofs.Showing.{state-reads}
use Rattle.host_readings.proofs.mode.Goals as goal

pub returns : goal.returns
returns c = rw (c.state_shown.ensures, c.starting_in-starting.ensures, c.numbers_in-numbers.ensures) (state-reads _)

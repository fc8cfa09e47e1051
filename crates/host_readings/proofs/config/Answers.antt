use Rattle.runtime.proofs.Showing.{config-reads}
use Rattle.host_readings.proofs.config.Goals as goal

pub returns : goal.returns
returns c = rw (c.config_shown.ensures, c.starting_in-starting.ensures, c.fixed_in-fixed.ensures) (config-reads _)

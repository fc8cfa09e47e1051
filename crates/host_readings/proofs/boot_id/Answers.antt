use Rattle.runtime.proofs.Showing.{boot-reads}
use Rattle.host_readings.proofs.boot_id.Goals as goal

pub returns : goal.returns
returns c = rw (c.number_shown.ensures, c.starting_in-starting.ensures, c.fixed_in-fixed.ensures) (boot-reads _)

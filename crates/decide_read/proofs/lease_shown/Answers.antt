use Rattle.decide_read.proofs.Runtimes.{told}
use Rattle.decide_read.proofs.lease_shown.Goals as goal

pub returns-in-Absent : goal.returns-in-Absent
returns-in-Absent c = simp (told c.args.starting.stage c.runtime_in-runtime.ensures, c.in-Absent.is, c.blank.ensures)

pub returns-in-Present : goal.returns-in-Present
returns-in-Present c = simp (told c.args.starting.stage c.runtime_in-runtime.ensures, c.in-Present.is, c.lease_of.ensures)

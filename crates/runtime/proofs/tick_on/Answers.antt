use Rattle.runtime.proofs.Callings.{asked-good, ticks-busy, ticks-quiet}
use Rattle.runtime.proofs.tick_on.Goals as goal

pub begin-begun-requires : goal.begin-begun-requires
begin-begun-requires c = c.requires.0

pub supervise-requires : goal.supervise-requires
supervise-requires c = asked-good c.begin-begun.new.rt _ _ _ _ c.begin-begun.ensures.good

pub returns-in-Quiet : goal.returns-in-Quiet
returns-in-Quiet c = ticks-quiet c.args.rt.now c.begin-begun.new.rt c.args.time c.requires.1 c.begin-begun.result c.in-Quiet.is c.begin-begun.ensures

pub returns-in-Busy : goal.returns-in-Busy
returns-in-Busy c = ticks-busy c.args.rt.now c.begin-begun.new.rt c.args.time c.requires.1 c.begin-begun.result c.supervise.new.rt c.supervise.result c.in-Busy.is c.begin-begun.ensures (rw c.asking-rt.ensures at c.supervise.ensures)

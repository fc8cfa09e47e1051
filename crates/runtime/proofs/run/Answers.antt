use Rattle.runtime.proofs.Alters.{timed-good}
use Rattle.runtime.proofs.Onward.{runs-busy, runs-quiet}
use Rattle.runtime.proofs.run.Goals as goal

pub begin-begun-requires : goal.begin-begun-requires
begin-begun-requires c = timed-good c.args.rt.now c.args.time c.requires

pub go_on-requires : goal.go_on-requires
go_on-requires c = c.begin-begun.ensures.good

pub supervise-requires : goal.supervise-requires
supervise-requires c = c.begin-begun.ensures.good

pub returns-in-Quiet : goal.returns-in-Quiet
returns-in-Quiet c = runs-quiet c.args.rt.now c.begin-begun.new.rt c.go_on.new.rt c.args.time c.go_on.result c.begin-begun.result c.in-Quiet.is c.begin-begun.ensures c.go_on.ensures

pub returns-in-Busy : goal.returns-in-Busy
returns-in-Busy c = runs-busy c.args.rt.now c.begin-begun.new.rt c.supervise.new.rt c.args.time c.supervise.result c.begin-begun.result c.in-Busy.is c.begin-begun.ensures c.supervise.ensures

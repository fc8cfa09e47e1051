use Rattle.runtime.proofs.Callings.{asked-good, cancels-busy, cancels-quiet}
use Rattle.runtime.proofs.begin_cancel.Goals as goal

pub begin-begun-requires : goal.begin-begun-requires
begin-begun-requires c = c.requires

pub cancel_on-requires : goal.cancel_on-requires
cancel_on-requires c = c.begin-begun.ensures.good

pub supervise-requires : goal.supervise-requires
supervise-requires c = asked-good c.begin-begun.new.rt _ _ _ _ c.begin-begun.ensures.good

pub returns-in-Quiet : goal.returns-in-Quiet
returns-in-Quiet c = cancels-quiet c.args.rt.now c.begin-begun.new.rt c.args.owner c.args.lease c.args.time c.begin-begun.result c.cancel_on.new.rt c.cancel_on.result c.in-Quiet.is c.begin-begun.ensures c.cancel_on.ensures

pub returns-in-Busy : goal.returns-in-Busy
returns-in-Busy c = cancels-busy c.args.rt.now c.begin-begun.new.rt c.args.owner c.args.lease c.args.time c.begin-begun.result c.supervise.new.rt c.supervise.result c.in-Busy.is c.begin-begun.ensures (rw c.asking-rt.ensures at c.supervise.ensures)

use Rattle.runtime.proofs.Cells.{fails, holds}
use Rattle.runtime.proofs.Callings.{begins-stop, open-good, turned-off}
use Rattle.runtime.proofs.emergency_stop.Goals as goal

pub stop-requires : goal.stop-requires
stop-requires c = open-good c.args.rt.now c.requires (holds c.may_begin.ensures c.if-may_begin.true)

pub returns-then-may_begin : goal.returns-then-may_begin
returns-then-may_begin c = begins-stop c.args.rt.now c.requires (holds c.may_begin.ensures c.if-may_begin.true) c.stop.new.rt c.stop.result c.args.time c.stop.ensures

pub returns-else-may_begin : goal.returns-else-may_begin
returns-else-may_begin c = rw c.turned_away.ensures (turned-off c.args.rt.now _ c.requires (fails c.may_begin.ensures c.if-may_begin.false))

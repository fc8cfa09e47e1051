use Rattle.runtime.proofs.Cells.{fails, holds}
use Rattle.runtime.proofs.Callings.{begins-so, open-good, turned-off}
use Rattle.runtime.proofs.cancel.Goals as goal

pub begin_cancel-requires : goal.begin_cancel-requires
begin_cancel-requires c = open-good c.args.rt.now c.requires (holds c.may_begin.ensures c.if-may_begin.true)

pub returns-then-may_begin : goal.returns-then-may_begin
returns-then-may_begin c = begins-so c.args.rt.now c.requires (holds c.may_begin.ensures c.if-may_begin.true) c.begin_cancel.new.rt c.begin_cancel.result _ c.begin_cancel.ensures

pub returns-else-may_begin : goal.returns-else-may_begin
returns-else-may_begin c = rw c.turned_away.ensures (turned-off c.args.rt.now _ c.requires (fails c.may_begin.ensures c.if-may_begin.false))

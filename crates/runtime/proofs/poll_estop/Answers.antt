use Rattle.runtime.proofs.Cells.{fails, holds}
use Rattle.runtime.proofs.Callings.{begins-so, is-idle, open-good, turned-off}
use Rattle.runtime.proofs.poll_estop.Goals as goal

pub poll_on-requires : goal.poll_on-requires
poll_on-requires c = (open-good c.args.rt.now c.requires (holds c.may_begin.ensures c.if-may_begin.true), is-idle c.args.rt.now c.requires (holds c.may_begin.ensures c.if-may_begin.true))

pub returns-then-may_begin : goal.returns-then-may_begin
returns-then-may_begin c = begins-so c.args.rt.now c.requires (holds c.may_begin.ensures c.if-may_begin.true) c.poll_on.new.rt c.poll_on.result _ c.poll_on.ensures

pub returns-else-may_begin : goal.returns-else-may_begin
returns-else-may_begin c = rw c.turned_away.ensures (turned-off c.args.rt.now _ c.requires (fails c.may_begin.ensures c.if-may_begin.false))

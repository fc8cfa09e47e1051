use Rattle.runtime.proofs.Cells.{fails, holds}
use Rattle.runtime.proofs.Callings.{begins-so, is-idle, open-good, turned-off}
use Rattle.runtime.proofs.tick.Goals as goal

pub tick_on-requires : goal.tick_on-requires
tick_on-requires c = (open-good c.args.rt.now c.requires (holds c.may_begin.ensures c.if-may_begin.true), is-idle c.args.rt.now c.requires (holds c.may_begin.ensures c.if-may_begin.true))

pub returns-then-may_begin : goal.returns-then-may_begin
returns-then-may_begin c = begins-so c.args.rt.now c.requires (holds c.may_begin.ensures c.if-may_begin.true) c.tick_on.new.rt c.tick_on.result _ c.tick_on.ensures

pub returns-else-may_begin : goal.returns-else-may_begin
returns-else-may_begin c = rw c.turned_away.ensures (turned-off c.args.rt.now _ c.requires (fails c.may_begin.ensures c.if-may_begin.false))

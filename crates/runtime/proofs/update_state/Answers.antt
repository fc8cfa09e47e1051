use Rattle.runtime.proofs.Cells.{fails, holds}
use Rattle.runtime.proofs.Callings.{asked-good, begins-sense, open-good, turned-off}
use Rattle.runtime.proofs.update_state.Goals as goal

pub run-requires : goal.run-requires
run-requires c = asked-good c.args.rt.now _ _ _ _ (open-good c.args.rt.now c.requires (holds c.may_begin.ensures c.if-may_begin.true))

pub returns-then-may_begin : goal.returns-then-may_begin
returns-then-may_begin c = begins-sense c.args.rt.now c.requires (holds c.may_begin.ensures c.if-may_begin.true) c.run.new.rt c.run.result c.args.flags c.args.time (rw c.asking-rt.ensures at c.run.ensures)

pub returns-else-may_begin : goal.returns-else-may_begin
returns-else-may_begin c = rw c.turned_away.ensures (turned-off c.args.rt.now _ c.requires (fails c.may_begin.ensures c.if-may_begin.false))

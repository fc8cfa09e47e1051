use mathlib.Core.Path.{refl}
use Rattle.runtime.proofs.Cells.{fails, holds}
use Rattle.runtime.proofs.Trials.{started-good, started-turns, unheard-turns}
use Rattle.runtime.proofs.observed.Goals as goal

pub observed_on-requires : goal.observed_on-requires
observed_on-requires c = started-good c.args.rt.now c.requires (holds c.is_started.ensures c.if-is_started.true)

pub returns-then-is_started : goal.returns-then-is_started
returns-then-is_started c = started-turns c.args.rt.now c.observed_on.new.rt c.observed_on.result _ (holds c.is_started.ensures c.if-is_started.true) c.observed_on.ensures

pub returns-else-is_started : goal.returns-else-is_started
returns-else-is_started c = rw c.unheard.ensures (unheard-turns c.args.rt.now _ refl c.requires (fails c.is_started.ensures c.if-is_started.false))

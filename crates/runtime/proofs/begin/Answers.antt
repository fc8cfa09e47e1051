use Rattle.runtime.proofs.Cells.{holds, fails}
use Rattle.runtime.proofs.Alters.{begins-busy, begins-quiet}
use Rattle.runtime.proofs.begin.Goals as goal

pub returns-then-is_begun : goal.returns-then-is_begun
returns-then-is_begun c = begins-quiet c.args.rt.now c.args.time c.opened-open.result.begun c.opened-open.result.mode c.requires (holds c.is_begun.ensures c.if-is_begun.true) c.opened-open.ensures

pub returns-else-is_begun : goal.returns-else-is_begun
returns-else-is_begun c = begins-busy c.args.rt.now c.args.time c.opened-open.result.begun c.requires (fails c.is_begun.ensures c.if-is_begun.false)

use Rattle.host_store.proofs.Placing.{placed-rejected, placed-other}
use Rattle.host_store.proofs.placed.Goals as goal

pub returns-then-rejection : goal.returns-then-rejection
returns-then-rejection c = placed-rejected _ c.push_any-pushed.ensures c.if-rejection.true

pub returns : goal.returns
returns c = placed-other _ c.push_any-pushed.ensures c.if-rejection.false

use native.Mathlib.Omega.{arith}
use Rattle.receipts.proofs.Promises.{recorded-below, records-rejection, records-other}
use Rattle.receipts.proofs.Ring.record.Goals as goal

pub offset_bounds-self-pushed : goal.offset_bounds-self-pushed
offset_bounds-self-pushed c = omega (arith, recorded-below c.args.self.now c.args.receipt c.requires c.is_rejected-rejection.ensures c.push-pushed.ensures)

pub bounds-self-pushed : goal.bounds-self-pushed
bounds-self-pushed c = recorded-below c.args.self.now c.args.receipt c.requires c.is_rejected-rejection.ensures c.push-pushed.ensures

pub overflow_cast-self : goal.overflow_cast-self
overflow_cast-self c = omega (arith, recorded-below c.args.self.now c.args.receipt c.requires c.is_rejected-rejection.ensures c.push-pushed.ensures)

pub overflow_cast-self-else-rejection : goal.overflow_cast-self-else-rejection
overflow_cast-self-else-rejection c = omega (arith, recorded-below c.args.self.now c.args.receipt c.requires c.is_rejected-rejection.ensures c.push-pushed.ensures)

pub returns-then-rejection : goal.returns-then-rejection
returns-then-rejection c = records-rejection c.args.self.now c.args.receipt c.requires c.is_rejected-rejection.ensures c.push-pushed.ensures c.if-rejection.true

pub returns-else-rejection : goal.returns-else-rejection
returns-else-rejection c = records-other c.args.self.now c.args.receipt c.requires c.is_rejected-rejection.ensures c.push-pushed.ensures c.if-rejection.false

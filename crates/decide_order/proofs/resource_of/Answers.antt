use Rattle.rules.specs.Receipts.{axis_or255}
use Rattle.decide_order.proofs.resource_of.Goals as goal

pub returns-then-known : goal.returns-then-known
unfolding axis_or255
returns-then-known c = simp c.if-known.true

pub returns : goal.returns
unfolding axis_or255
returns c = simp c.if-known.false

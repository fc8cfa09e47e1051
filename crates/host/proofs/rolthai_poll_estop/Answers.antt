use borrow.Author.Rules.{rules}
use mathlib.Core.Path.{refl}
use Rattle.host.proofs.Lent.{enough, turned-away, is-served}
use Rattle.host.proofs.rolthai_poll_estop.Goals as goal

pub returns-then-fault-ne0 : goal.returns-then-fault-ne0
returns-then-fault-ne0 c = turned-away c.fault-fault.ensures c.if-fault-ne0.true refl refl

pub poll_estop-requires : goal.poll_estop-requires
poll_estop-requires c = enough _ c.fault-fault.ensures c.if-fault-ne0.false

pub returns : goal.returns
returns c = is-served c.fault-fault.ensures c.if-fault-ne0.false refl c.poll_estop.ensures c.number_of.ensures

use borrow.Author.Rules.{rules}
use mathlib.Core.Path.{refl}
use Rattle.host.proofs.Lent.{enough, turned-away, is-served}
use Rattle.host.proofs.rolthai_fell_back.Goals as goal

pub returns-then-fault-ne0 : goal.returns-then-fault-ne0
returns-then-fault-ne0 c = turned-away c.fault-fault.ensures c.if-fault-ne0.true refl refl

pub fell_back-requires : goal.fell_back-requires
fell_back-requires c = enough _ c.fault-fault.ensures c.if-fault-ne0.false

pub returns : goal.returns
returns c = is-served c.fault-fault.ensures c.if-fault-ne0.false refl c.fell_back.ensures c.number_of.ensures

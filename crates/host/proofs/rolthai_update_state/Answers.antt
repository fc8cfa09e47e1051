use borrow.Author.Rules.{rules}
use mathlib.Core.Path.{refl}
use Rattle.host.proofs.Lent.{enough, turned-away, is-served}
use Rattle.host.proofs.rolthai_update_state.Goals as goal

pub returns-then-fault-ne0 : goal.returns-then-fault-ne0
returns-then-fault-ne0 c = turned-away c.fault-fault.ensures c.if-fault-ne0.true refl refl

pub update_state-requires : goal.update_state-requires
update_state-requires c = enough _ c.fault-fault.ensures c.if-fault-ne0.false

pub returns : goal.returns
returns c = is-served c.fault-fault.ensures c.if-fault-ne0.false refl c.update_state.ensures c.number_of.ensures

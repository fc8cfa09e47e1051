use borrow.Author.Rules.{rules}
use mir.Facts.{to_z-of_z}
use mir.Syntax.{w32}
use mathlib.Core.Path.{refl}
use Rattle.host.proofs.Lent.{enough, turned-away, observes}
use Rattle.host.proofs.rolthai_observed.Goals as goal

pub returns-then-fault-ne0 : goal.returns-then-fault-ne0
returns-then-fault-ne0 c = turned-away c.fault-fault.ensures c.if-fault-ne0.true refl refl

pub observed-requires : goal.observed-requires
observed-requires c = enough _ c.fault-fault.ensures c.if-fault-ne0.false

pub returns : goal.returns
returns c = let a = c.before.before.before.before.before.before.before.before.before.before.args in observes a.ok a.sensed c.fault-fault.ensures c.if-fault-ne0.false c.presence_if.ensures (to_z-of_z {w = w32} {z = a.value0} (search rules)) (to_z-of_z {w = w32} {z = a.value1} (search rules)) c.observed.ensures c.number_of.ensures

use mathlib.Core.Path.{refl}
use native.Mathlib.Omega.{arith}
use Rattle.host.proofs.Lent.{at-enough, at_room, at-whole, records-fault, records}
use borrow.Author.Rules.{rules}
use Rattle.host.proofs.rolthai_step.Goals as goal

pub returns-then-fault-ne0 : goal.returns-then-fault-ne0
returns-then-fault-ne0 c = records-fault c.fault_at-fault.ensures c.if-fault-ne0.true refl refl refl

pub taken-did-requires : goal.taken-did-requires
taken-did-requires c = let e = c.fault_at-fault.ensures in let z = c.if-fault-ne0.false in let n = at-whole _ _ _ e z in (at-enough _ _ _ e z, omega (arith, n))

pub tell-requires : goal.tell-requires
tell-requires c = let e = c.fault_at-fault.ensures in let z = c.if-fault-ne0.false in let n = at-whole _ _ _ e z in let m = at-enough _ _ _ e z in (omega (arith, m, c.taken-did.ensures.long), omega (arith, n), at_room _ _ _ e z)

pub returns : goal.returns
returns c = records c.fault_at-fault.ensures c.if-fault-ne0.false c.taken-did.ensures c.tell.ensures

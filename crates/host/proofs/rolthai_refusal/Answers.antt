use borrow.Author.Rules.{rules}
use mathlib.Core.Path.{refl, ◌∙◌}
use Rattle.host.proofs.Lent.{enough, refuses-fault, refuses}
use Rattle.host.proofs.rolthai_refusal.Goals as goal

pub returns-then-fault-ne0 : goal.returns-then-fault-ne0
returns-then-fault-ne0 c = refuses-fault c.fault-fault.ensures c.if-fault-ne0.true refl

pub refusal-reason-requires : goal.refusal-reason-requires
refusal-reason-requires c = enough _ c.fault-fault.ensures c.if-fault-ne0.false

pub returns : goal.returns
returns c = refuses c.fault-fault.ensures c.if-fault-ne0.false c.refusal-reason.ensures (c.from-2.ensures ∙ c.from.ensures)

use borrow.Author.Rules.{rules}
use Rattle.host.proofs.Lent.{lack-fault, lack-short, lack-none}
use Rattle.host.proofs.lack.Goals as goal

pub returns-then-fault-ne0 : goal.returns-then-fault-ne0
returns-then-fault-ne0 c = lack-fault _ _ c.fault-fault.ensures c.if-fault-ne0.true

pub returns-then-out-lt26 : goal.returns-then-out-lt26
returns-then-out-lt26 c = lack-short _ _ c.fault-fault.ensures c.if-fault-ne0.false c.if-out-lt26.true

pub returns : goal.returns
returns c = lack-none _ _ c.fault-fault.ensures c.if-fault-ne0.false c.if-out-lt26.false

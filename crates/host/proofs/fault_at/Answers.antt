use borrow.Author.Rules.{rules}
use Rattle.host.proofs.Lent.{at-lack, at-short, at_none}
use Rattle.host.proofs.fault_at.Goals as goal

pub returns-then-lack-ne0 : goal.returns-then-lack-ne0
returns-then-lack-ne0 c = at-lack _ _ _ c.lack-lack.ensures c.if-lack-ne0.true

pub returns-then-words-ne16 : goal.returns-then-words-ne16
returns-then-words-ne16 c = at-short _ _ _ c.lack-lack.ensures c.if-lack-ne0.false c.if-words-ne16.true

pub returns : goal.returns
returns c = at_none _ _ _ c.lack-lack.ensures c.if-lack-ne0.false c.if-words-ne16.false

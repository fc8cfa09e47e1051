use borrow.Author.Rules.{rules}
use borrow.Author.Tests.{not-true, not-false}
use Rattle.host.proofs.Starting.{unasked-length, unasked-start, unasked-rest, asked-all}
use Rattle.host.proofs.are_asked.Goals as goal

pub returns-then-start-ne9 : goal.returns-then-start-ne9
returns-then-start-ne9 c = unasked-length _ _ c.if-start-ne9.true

pub returns-then-not-is_read : goal.returns-then-not-is_read
returns-then-not-is_read c = unasked-start _ _ c.start_record.ensures c.is_read.ensures (not-true _ c.if-not-is_read.true-raw)

pub returns-then-capabilities-ne0 : goal.returns-then-capabilities-ne0
returns-then-capabilities-ne0 c = unasked-rest _ _ c.if-capabilities-ne0.true

pub returns : goal.returns
returns c = asked-all _ _ c.if-start-ne9.false c.start_record.ensures c.is_read.ensures (not-false _ c.if-not-is_read.false-raw) c.if-capabilities-ne0.false c.are_read.ensures

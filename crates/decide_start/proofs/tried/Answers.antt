use borrow.Author.Tests.{lt-ltb, le-ltb}
use Rattle.decide_start.proofs.tried.Goals as goal

pub returns-then-axis-lt8 : goal.returns-then-axis-lt8
returns-then-axis-lt8 c = rw (lt-ltb _ _ c.if-axis-lt8.true)

pub returns-then-good : goal.returns-then-good
returns-then-good c = rw (le-ltb _ _ c.if-axis-lt8.false, c.if-good.true) c.ended.ensures

pub returns : goal.returns
returns c = rw (le-ltb _ _ c.if-axis-lt8.false, c.if-good.false) c.ended-2.ensures

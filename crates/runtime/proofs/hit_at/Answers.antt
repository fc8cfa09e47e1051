use borrow.Author.Tests.{lt-ltb, le-ltb}
use Rattle.runtime.proofs.hit_at.Goals as goal

pub returns-then-at-lt32 : goal.returns-then-at-lt32
returns-then-at-lt32 c = simp (lt-ltb _ _ c.if-at-lt32.true)

pub returns : goal.returns
returns c = simp (le-ltb _ _ c.if-at-lt32.false)

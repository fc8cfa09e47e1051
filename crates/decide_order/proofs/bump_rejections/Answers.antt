use borrow.Author.Tests.{lt-ltb, le-ltb}
use Rattle.rules.specs.Receipts.{bump_to}
use Rattle.decide_order.proofs.bump_rejections.Goals as goal

pub returns-then-n-lt65535 : goal.returns-then-n-lt65535
unfolding bump_to
returns-then-n-lt65535 c = simp (lt-ltb _ _ c.if-n-lt65535.true)

pub returns-else-n-lt65535 : goal.returns-else-n-lt65535
unfolding bump_to
returns-else-n-lt65535 c = simp (le-ltb _ _ c.if-n-lt65535.false)

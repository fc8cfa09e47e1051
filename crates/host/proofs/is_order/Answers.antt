use mathlib.Core.Path.{sym, ◌∙◌}
use borrow.Author.Rules.{rules}
use borrow.Author.Tests.{le-leb, lt-leb}
use Rattle.host.proofs.Lent.{order-known}
use Rattle.host.proofs.is_order.Goals as goal

pub returns-then-f-gt65535 : goal.returns-then-f-gt65535
returns-then-f-gt65535 c = sym (order-known _ c.shared_slice_known-1.given ∙ rw (lt-leb _ _ c.if-f-gt65535.true))

pub returns-then-f-gt4294967295 : goal.returns-then-f-gt4294967295
returns-then-f-gt4294967295 c = sym (order-known _ c.shared_slice_known-2-1.given ∙ rw (le-leb _ _ c.if-f-gt65535.false, lt-leb _ _ c.if-f-gt4294967295.true))

pub returns-then-f-gt4294967295-2 : goal.returns-then-f-gt4294967295-2
returns-then-f-gt4294967295-2 c = sym (order-known _ c.shared_slice_known-3-1.given ∙ rw (le-leb _ _ c.if-f-gt65535.false, le-leb _ _ c.if-f-gt4294967295.false, lt-leb _ _ c.if-f-gt4294967295-2.true))

pub returns : goal.returns
returns c = sym (order-known _ c.shared_slice_known-4-1.given ∙ rw (le-leb _ _ c.if-f-gt65535.false, le-leb _ _ c.if-f-gt4294967295.false, le-leb _ _ c.if-f-gt4294967295-2.false))

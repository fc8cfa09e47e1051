use mathlib.Core.Path.{sym, ◌∙◌}
use borrow.Author.Rules.{rules}
use borrow.Author.Tests.{le-leb, lt-leb}
use Rattle.host.proofs.Lent.{request-known}
use Rattle.host.proofs.is_request.Goals as goal

pub returns-then-f-gt255 : goal.returns-then-f-gt255
returns-then-f-gt255 c = sym (request-known _ c.shared_slice_known-1.given ∙ rw (lt-leb _ _ c.if-f-gt255.true))

pub returns-then-f-gt4294967295 : goal.returns-then-f-gt4294967295
returns-then-f-gt4294967295 c = sym (request-known _ c.shared_slice_known-2-1.given ∙ rw (le-leb _ _ c.if-f-gt255.false, lt-leb _ _ c.if-f-gt4294967295.true))

pub returns-then-f-gt4294967295-2 : goal.returns-then-f-gt4294967295-2
returns-then-f-gt4294967295-2 c = sym (request-known _ c.shared_slice_known-3-1.given ∙ rw (le-leb _ _ c.if-f-gt255.false, le-leb _ _ c.if-f-gt4294967295.false, lt-leb _ _ c.if-f-gt4294967295-2.true))

pub returns-then-f-gt4294967295-3 : goal.returns-then-f-gt4294967295-3
returns-then-f-gt4294967295-3 c = sym (request-known _ c.shared_slice_known-4-1.given ∙ rw (le-leb _ _ c.if-f-gt255.false, le-leb _ _ c.if-f-gt4294967295.false, le-leb _ _ c.if-f-gt4294967295-2.false, lt-leb _ _ c.if-f-gt4294967295-3.true))

pub returns-then-f-gt4294967295-4 : goal.returns-then-f-gt4294967295-4
returns-then-f-gt4294967295-4 c = sym (request-known _ c.shared_slice_known-5-1.given ∙ rw (le-leb _ _ c.if-f-gt255.false, le-leb _ _ c.if-f-gt4294967295.false, le-leb _ _ c.if-f-gt4294967295-2.false, le-leb _ _ c.if-f-gt4294967295-3.false, lt-leb _ _ c.if-f-gt4294967295-4.true))

pub returns : goal.returns
returns c = sym (request-known _ c.shared_slice_known-6-1.given ∙ rw (le-leb _ _ c.if-f-gt255.false, le-leb _ _ c.if-f-gt4294967295.false, le-leb _ _ c.if-f-gt4294967295-2.false, le-leb _ _ c.if-f-gt4294967295-3.false, le-leb _ _ c.if-f-gt4294967295-4.false))

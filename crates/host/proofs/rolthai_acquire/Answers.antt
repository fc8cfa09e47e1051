use borrow.Author.Rules.{rules}
use borrow.Author.Tests.{not-true, not-false}
use mathlib.Core.Path.{refl}
use Rattle.host.proofs.Lent.{enough, asked-short, turned-away, not-read, unread-of, acquires}
use Rattle.host.proofs.rolthai_acquire.Goals as goal

pub returns-then-fault-ne0 : goal.returns-then-fault-ne0
returns-then-fault-ne0 c = turned-away c.fault-fault.ensures c.if-fault-ne0.true refl refl

pub returns-then-request-ne9 : goal.returns-then-request-ne9
returns-then-request-ne9 c = not-read c.fault-fault.ensures c.if-fault-ne0.false (asked-short _ _ _ c.if-request-ne9.true) refl refl

pub returns-then-not-is_request : goal.returns-then-not-is_request
returns-then-not-is_request c = unread-of _ _ _ c.fault-fault.ensures c.if-fault-ne0.false c.if-request-ne9.false c.is_request.ensures (not-true _ c.if-not-is_request.true-raw) refl refl

pub acquire-requires : goal.acquire-requires
acquire-requires c = enough _ c.fault-fault.ensures c.if-fault-ne0.false

pub returns : goal.returns
returns c = acquires _ c.fault-fault.ensures c.if-fault-ne0.false c.if-request-ne9.false c.is_request.ensures (not-false _ c.if-not-is_request.false-raw) c.acquire_record-words.ensures c.request_of.ensures c.acquire.ensures c.number_of.ensures

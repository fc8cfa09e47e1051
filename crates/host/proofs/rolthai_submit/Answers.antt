use borrow.Author.Rules.{rules}
use borrow.Author.Tests.{not-true, not-false}
use mathlib.Core.Path.{refl}
use Rattle.host.proofs.Lent.{enough, asked-short, turned-away, not-read, unread-of, submits}
use Rattle.host.proofs.rolthai_submit.Goals as goal

pub returns-then-fault-ne0 : goal.returns-then-fault-ne0
returns-then-fault-ne0 c = turned-away c.fault-fault.ensures c.if-fault-ne0.true refl refl

pub returns-then-order-ne15 : goal.returns-then-order-ne15
returns-then-order-ne15 c = not-read c.fault-fault.ensures c.if-fault-ne0.false (asked-short _ _ _ c.if-order-ne15.true) refl refl

pub returns-then-not-is_order : goal.returns-then-not-is_order
returns-then-not-is_order c = unread-of _ _ _ c.fault-fault.ensures c.if-fault-ne0.false c.if-order-ne15.false c.is_order.ensures (not-true _ c.if-not-is_order.true-raw) refl refl

pub submit-requires : goal.submit-requires
submit-requires c = enough _ c.fault-fault.ensures c.if-fault-ne0.false

pub returns : goal.returns
returns c = submits _ c.fault-fault.ensures c.if-fault-ne0.false c.if-order-ne15.false c.is_order.ensures (not-false _ c.if-not-is_order.false-raw) c.submit_record-words.ensures c.submission_of.ensures c.submit.ensures c.number_of.ensures

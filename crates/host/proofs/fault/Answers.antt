use borrow.Author.Rules.{rules}
use native.Mathlib.Omega.{arith}
use Rattle.host.proofs.Lent.{is-size, other-size, word-there, fault-short, fault-other, fault-none}
use Rattle.host.proofs.fault.Goals as goal

pub returns-then-not-is_whole : goal.returns-then-not-is_whole
returns-then-not-is_whole c = fault-short _ (other-size _ c.is_whole.ensures c.if-not-is_whole.true-raw)

pub bounds-state-0 : goal.bounds-state-0
bounds-state-0 c = word-there (omega arith) c.is_whole.ensures c.if-not-is_whole.false-raw

pub returns-then-state-ne-FIRST : goal.returns-then-state-ne-FIRST
returns-then-state-ne-FIRST c = fault-other _ (is-size c.is_whole.ensures c.if-not-is_whole.false-raw) c.if-state-ne-FIRST.true

pub returns : goal.returns
returns c = fault-none _ (is-size c.is_whole.ensures c.if-not-is_whole.false-raw) c.if-state-ne-FIRST.false

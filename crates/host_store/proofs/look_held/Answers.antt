use borrow.Author.Rules.{rules}
use Rattle.host_store.proofs.Finds.{seeks-on, seeks-here, seeks-past, seeks-from}
use Rattle.host_store.proofs.look_held.Goals as goal

pub loop-i-init : goal.loop-i-init
loop-i-init c = seeks-from _ _ _ (search rules)

pub loop-i-preserved : goal.loop-i-preserved
loop-i-preserved c = seeks-on c.loop-i.invariant _ c.loop-i-test.true c.is_held_at.ensures c.if-not-is_held_at.true-raw

pub returns-else-not-is_held_at : goal.returns-else-not-is_held_at
returns-else-not-is_held_at c = seeks-here c.loop-i.invariant _ c.loop-i-test.true c.is_held_at.ensures c.if-not-is_held_at.false-raw

pub returns-after-loop-i : goal.returns-after-loop-i
returns-after-loop-i c = seeks-past c.loop-i.invariant c.loop-i-test.false

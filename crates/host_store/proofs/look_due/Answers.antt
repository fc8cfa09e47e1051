use Rattle.host_store.proofs.Finds.{seeks-on, seeks-here, seeks-past, seeks-from, seeks-none}
use Rattle.host_store.proofs.look_due.Goals.{then-time-numbers, else-time-numbers}
use Rattle.host_store.proofs.look_due.Goals as goal

pub loop-i-preserved : goal.loop-i-preserved
loop-i-preserved c = seeks-on c.loop-i.invariant _ c.loop-i-test.true c.is_due_at.ensures c.if-not-is_due_at.true-raw

pub returns-else-not-is_due_at : goal.returns-else-not-is_due_at
returns-else-not-is_due_at c = seeks-here c.loop-i.invariant _ c.loop-i-test.true c.is_due_at.ensures c.if-not-is_due_at.false-raw

pub returns-after-loop-i : goal.returns-after-loop-i
returns-after-loop-i c = seeks-past c.loop-i.invariant c.loop-i-test.false

pub loop-i-init : goal.loop-i-init
loop-i-init c =
    let low = c.requires.1 in
    elim c.if-time-numbers.branch [
      | then-time-numbers w ↦ rw w.i-is (seeks-none _ _ _ _ c.numbers_in-numbers.ensures low w.if-time-numbers.true)
      | else-time-numbers w ↦ rw w.i-is (seeks-from _ _ _ low)
    ]

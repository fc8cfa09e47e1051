use Rattle.host_steps.proofs.Courses.{quiet-begins, busy-begins}
use Rattle.host_steps.proofs.begin.Goals as goal

pub returns-then-is_begun : goal.returns-then-is_begun
returns-then-is_begun c = quiet-begins _ _ c.args.time c.opened-open.result c.fixed_in-fixed.ensures c.numbers_in-numbers.ensures c.opened-open.ensures c.is_begun.ensures c.if-is_begun.true _ c.ticked.ensures c.put_numbers.ensures

pub returns-else-is_begun : goal.returns-else-is_begun
returns-else-is_begun c = busy-begins _ _ c.args.time c.opened-open.result c.fixed_in-fixed.ensures c.numbers_in-numbers.ensures c.opened-open.ensures c.is_begun.ensures c.if-is_begun.false

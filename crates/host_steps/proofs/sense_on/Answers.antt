use Rattle.host_steps.proofs.Courses.{same-goes}
use Rattle.host_steps.proofs.sense_on.Goals as goal

pub returns-then-is_same : goal.returns-then-is_same
returns-then-is_same c = same-goes c.args.flags c.args.time c.numbers_in-numbers.ensures c.is_same.ensures c.if-is_same.true _ c.stamped.ensures c.put_numbers.ensures _ c.awaiting.ensures c.put_waiting.ensures

pub returns : goal.returns
returns c = c.sense.ensures

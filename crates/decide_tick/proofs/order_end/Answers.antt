use Rattle.decide_tick.specs.Ticks.{order_end}
use Rattle.decide_tick.proofs.order_end.Goals as goal

pub returns-in-Absent : goal.returns-in-Absent
unfolding order_end
returns-in-Absent c = simp c.in-Absent.is

pub returns-in-Present : goal.returns-in-Present
unfolding order_end
returns-in-Present c = simp c.in-Present.is

use Rattle.host_steps.proofs.Courses.{tick-ends, tick-goes-on}
use Rattle.layout.proofs.Chains.{long_after}
use Rattle.host_steps.proofs.supervise.Goals as goal

pub follow-answer-requires : goal.follow-answer-requires
follow-answer-requires c = c.requires

pub tighten-requires : goal.tighten-requires
tighten-requires c = long_after c.requires c.follow-answer.ensures.same

pub returns-then-is_going_on : goal.returns-then-is_going_on
returns-then-is_going_on c = tick-goes-on _ _ _ _ c.look_due-axis.result _ c.args.time c.opening_tick-course.result c.fixed_in-fixed.ensures c.numbers_in-numbers.ensures c.falling_in-falling.ensures c.look_due-axis.ensures.0 c.lease_at-lease.ensures c.opening_tick-course.ensures c.follow-answer.ensures c.is_going_on.ensures c.if-is_going_on.true c.tighten.ensures

pub returns : goal.returns
returns c = tick-ends _ _ _ _ c.look_due-axis.result _ c.args.time c.opening_tick-course.result c.fixed_in-fixed.ensures c.numbers_in-numbers.ensures c.falling_in-falling.ensures c.look_due-axis.ensures.0 c.lease_at-lease.ensures c.opening_tick-course.ensures c.follow-answer.ensures c.is_going_on.ensures c.if-is_going_on.false

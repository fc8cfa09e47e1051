use Rattle.model.specs.Records.{no_lease}
use Rattle.runtime.proofs.Looks.{lease-low}
use Rattle.rules.specs.Rules.{tick as tick_rule}
use Rattle.runtime.proofs.Cells.{none-up, same_at, holds, fails}
use Rattle.runtime.proofs.Onward.{due-shown, ends_so, left-good, supervises}
use Rattle.runtime.specs.Runtimes.{asked_in, book_on, hand_in, tables_in}
use Rattle.state.specs.State.{after_tick}
use Rattle.runtime.proofs.supervise.Goals as goal

pub bounds-rt-axis : goal.bounds-rt-axis
bounds-rt-axis c = c.look_due-axis.ensures.1

pub look_due-axis-requires : goal.look_due-axis-requires
look_due-axis-requires c = (c.requires, none-up 8)

pub follow-answer-requires : goal.follow-answer-requires
follow-answer-requires c = ((rw (same_at _ no_lease c.args.rt.now.leases c.look_due-axis.result (lease-low c.args.rt.now c.requires.kept c.look_due-axis.result c.look_due-axis.ensures.1)) at c.opening_tick-course.ensures) (c.requires.sound.falling) (tables_in c.args.rt.now) (asked_in c.args.rt.now) (hand_in c.args.rt.now) (c.requires.sound) (due-shown c.args.rt.now c.args.time 0 c.look_due-axis.result c.requires c.look_due-axis.ensures.0)).falling

pub tighten-requires : goal.tighten-requires
tighten-requires c = left-good c.args.rt.now c.opening_tick-course.result (tick_rule c.args.time (book_on c.args.rt.now) (after_tick (asked_in c.args.rt.now))) c.requires ((rw (same_at _ no_lease c.args.rt.now.leases c.look_due-axis.result (lease-low c.args.rt.now c.requires.kept c.look_due-axis.result c.look_due-axis.ensures.1)) at c.opening_tick-course.ensures) (c.requires.sound.falling) (tables_in c.args.rt.now) (asked_in c.args.rt.now) (hand_in c.args.rt.now) (c.requires.sound) (due-shown c.args.rt.now c.args.time 0 c.look_due-axis.result c.requires c.look_due-axis.ensures.0)) c.follow-answer.new.rt c.follow-answer.result c.follow-answer.ensures

pub go_on-requires : goal.go_on-requires
go_on-requires c = c.tighten.ensures.good

pub returns-then-is_going_on : goal.returns-then-is_going_on
returns-then-is_going_on c = supervises c.args.rt.now c.opening_tick-course.result (tick_rule c.args.time (book_on c.args.rt.now) (after_tick (asked_in c.args.rt.now))) c.requires ((rw (same_at _ no_lease c.args.rt.now.leases c.look_due-axis.result (lease-low c.args.rt.now c.requires.kept c.look_due-axis.result c.look_due-axis.ensures.1)) at c.opening_tick-course.ensures) (c.requires.sound.falling) (tables_in c.args.rt.now) (asked_in c.args.rt.now) (hand_in c.args.rt.now) (c.requires.sound) (due-shown c.args.rt.now c.args.time 0 c.look_due-axis.result c.requires c.look_due-axis.ensures.0)) c.follow-answer.new.rt c.follow-answer.result c.follow-answer.ensures (holds c.is_going_on.ensures c.if-is_going_on.true) c.tighten.new.rt c.go_on.new.rt c.go_on.result c.tighten.ensures c.go_on.ensures

pub returns-else-is_going_on : goal.returns-else-is_going_on
returns-else-is_going_on c = ends_so c.args.rt.now c.opening_tick-course.result (tick_rule c.args.time (book_on c.args.rt.now) (after_tick (asked_in c.args.rt.now))) c.requires ((rw (same_at _ no_lease c.args.rt.now.leases c.look_due-axis.result (lease-low c.args.rt.now c.requires.kept c.look_due-axis.result c.look_due-axis.ensures.1)) at c.opening_tick-course.ensures) (c.requires.sound.falling) (tables_in c.args.rt.now) (asked_in c.args.rt.now) (hand_in c.args.rt.now) (c.requires.sound) (due-shown c.args.rt.now c.args.time 0 c.look_due-axis.result c.requires c.look_due-axis.ensures.0)) c.follow-answer.new.rt c.follow-answer.result c.follow-answer.ensures (fails c.is_going_on.ensures c.if-is_going_on.false)

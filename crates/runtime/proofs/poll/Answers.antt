use Rattle.rules.specs.Interaction.{Done, Polled}
use Rattle.rules.specs.Rules.{emergency_stop}
use Rattle.rules.specs.With.{with_estop_seen}
use Rattle.runtime.proofs.Courses.{followed-moves}
use Rattle.runtime.specs.Runtimes.{asked_in, book_on, hand_in, tables_in}
use mathlib.Core.Bool.{true}
use Rattle.runtime.proofs.poll.Goals as goal

pub follow-requires : goal.follow-requires
follow-requires c = (c.polled-course.ensures.1 (tables_in c.args.rt.now) (asked_in c.args.rt.now) (hand_in c.args.rt.now) (c.requires.sound)).falling

pub returns : goal.returns
returns c = followed-moves c.args.rt.now c.polled-course.result (emergency_stop c.args.time (with_estop_seen c.args.raised (book_on c.args.rt.now)) (λ b. Done b (Polled true))) c.requires ((c.polled-course.ensures.1 (tables_in c.args.rt.now) (asked_in c.args.rt.now) (hand_in c.args.rt.now) (c.requires.sound))) c.follow.new.rt c.follow.result (c.polled-course.ensures.0) c.follow.ensures

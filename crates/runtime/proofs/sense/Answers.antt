use Rattle.rules.specs.Rules.{sense as sense_rule}
use Rattle.runtime.proofs.Cells.{none-up}
use Rattle.runtime.proofs.Courses.{followed-moves}
use Rattle.runtime.specs.Runtimes.{asked_in, book_on, hand_in, tables_in}
use Rattle.runtime.proofs.sense.Goals as goal

pub look_forbidden-axis-requires : goal.look_forbidden-axis-requires
look_forbidden-axis-requires c = (c.requires, none-up 8)

pub follow-requires : goal.follow-requires
follow-requires c = (c.sensed-course.ensures.1 (c.requires.sound.falling) (tables_in c.args.rt.now) (asked_in c.args.rt.now) (hand_in c.args.rt.now) (c.requires.sound) c.look_forbidden-axis.ensures.0).falling

pub returns : goal.returns
returns c = followed-moves c.args.rt.now c.sensed-course.result (sense_rule c.args.flags c.args.time (book_on c.args.rt.now)) c.requires ((c.sensed-course.ensures.1 (c.requires.sound.falling) (tables_in c.args.rt.now) (asked_in c.args.rt.now) (hand_in c.args.rt.now) (c.requires.sound) c.look_forbidden-axis.ensures.0)) c.follow.new.rt c.follow.result (c.sensed-course.ensures.0) c.follow.ensures

use Rattle.rules.specs.Rules.{recover}
use Rattle.runtime.proofs.Courses.{followed-moves}
use Rattle.runtime.specs.Runtimes.{asked_in, book_on, hand_in, tables_in}
use Rattle.runtime.proofs.recover_on.Goals as goal

pub follow-requires : goal.follow-requires
follow-requires c = (c.recovered-course.ensures.1 (c.requires.sound.falling) (tables_in c.args.rt.now) (asked_in c.args.rt.now) (hand_in c.args.rt.now) (c.requires.sound)).falling

pub returns : goal.returns
returns c = followed-moves c.args.rt.now c.recovered-course.result (recover c.args.time (book_on c.args.rt.now)) c.requires ((c.recovered-course.ensures.1 (c.requires.sound.falling) (tables_in c.args.rt.now) (asked_in c.args.rt.now) (hand_in c.args.rt.now) (c.requires.sound))) c.follow.new.rt c.follow.result (c.recovered-course.ensures.0) c.follow.ensures

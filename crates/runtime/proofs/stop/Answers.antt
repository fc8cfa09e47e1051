use Rattle.rules.specs.Interaction.{Done, Returned}
use Rattle.rules.specs.Rules.{emergency_stop}
use Rattle.runtime.proofs.Courses.{followed-moves, stops}
use Rattle.runtime.specs.Runtimes.{book_on}
use Rattle.runtime.proofs.stop.Goals as goal

pub follow-requires : goal.follow-requires
follow-requires c = (stops c.args.rt.now c.args.time c.stopped-course.result c.requires (c.stopped-course.ensures.1)).falling

pub returns : goal.returns
returns c = followed-moves c.args.rt.now c.stopped-course.result (emergency_stop c.args.time (book_on c.args.rt.now) (λ b. Done b Returned)) c.requires ((stops c.args.rt.now c.args.time c.stopped-course.result c.requires (c.stopped-course.ensures.1))) c.follow.new.rt c.follow.result (c.stopped-course.ensures.0) c.follow.ensures

use Rattle.rules.specs.Admission.{held_axis}
use Rattle.rules.specs.Rules.{canceled as canceled_rule}
use Rattle.runtime.proofs.Courses.{followed-moves}
use Rattle.runtime.specs.Runtimes.{asked_in, book_on, hand_in, tables_in}
use Rattle.runtime.proofs.cancel_on.Goals as goal

pub look_held-axis-requires : goal.look_held-axis-requires
look_held-axis-requires c = c.requires

pub follow-requires : goal.follow-requires
follow-requires c = (c.canceled-course.ensures.1 (c.args.rt.now.fixed) c.args.owner c.args.lease_id (c.requires.sound.falling) (tables_in c.args.rt.now) (asked_in c.args.rt.now) (hand_in c.args.rt.now) (c.requires.sound) c.look_held-axis.ensures.0).falling

pub returns : goal.returns
returns c = followed-moves c.args.rt.now c.canceled-course.result (canceled_rule (held_axis c.args.owner c.args.lease_id (book_on c.args.rt.now)) c.args.time (book_on c.args.rt.now)) c.requires ((c.canceled-course.ensures.1 (c.args.rt.now.fixed) c.args.owner c.args.lease_id (c.requires.sound.falling) (tables_in c.args.rt.now) (asked_in c.args.rt.now) (hand_in c.args.rt.now) (c.requires.sound) c.look_held-axis.ensures.0)) c.follow.new.rt c.follow.result (c.canceled-course.ensures.0) c.follow.ensures

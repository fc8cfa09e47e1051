use Rattle.runtime.proofs.Told.{slot-read}
use Rattle.rules.specs.Interaction.{Done, Submitted}
use Rattle.rules.specs.Rules.{trip as trip_rule}
use Rattle.runtime.proofs.Alters.{submitting, submitting-good, trips-order}
use Rattle.runtime.proofs.Courses.{followed-moves}
use Rattle.runtime.specs.Runtimes.{book_on, hand_in}
use lib.Dec.{lit<}
use Rattle.runtime.proofs.trip_order.Goals as goal

pub bounds-rt-slot : goal.bounds-rt-slot
bounds-rt-slot c = c.requires.kept.placed.slot

pub follow-requires : goal.follow-requires
follow-requires c = (trips-order c.args.rt.now c.args.reason c.trips-course.result c.requires (c.trips-course.ensures.1 (lit< tt))).falling

pub returns : goal.returns
returns c =
    let k = c.requires.kept in
    followed-moves (submitting c.args.rt.now) c.trips-course.result (trip_rule c.args.reason c.args.rt.now.submission.now (book_on c.args.rt.now) (λ b. Done b (Submitted (hand_in c.args.rt.now).receipt))) (submitting-good c.args.rt.now c.requires) (trips-order c.args.rt.now c.args.reason c.trips-course.result c.requires (c.trips-course.ensures.1 (lit< tt))) c.follow.new.rt c.follow.result c.trips-course.ensures.0 (rw (slot-read c.args.rt.now k c.args.rt.now.slot k.placed.slot) at c.follow.ensures)

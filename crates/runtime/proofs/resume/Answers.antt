use Rattle.runtime.proofs.Cells.{fails, holds}
use Rattle.runtime.proofs.Told.{lease-read}
use Rattle.runtime.proofs.Onward.{ends_so, left-good, resumed-leads, resumes}
use Rattle.runtime.specs.Runtimes.{asked_in, book_on, tables_in}
use Rattle.state.specs.State.{after_fallback}
use Rattle.runtime.proofs.resume.Goals as goal

pub bounds-rt-axis : goal.bounds-rt-axis
bounds-rt-axis c = c.look_sought-axis.ensures.1

pub search_after-search-requires : goal.search_after-search-requires
search_after-search-requires c = c.requires.sound.falling

pub look_sought-axis-requires : goal.look_sought-axis-requires
look_sought-axis-requires c = (c.requires, c.search_after-search.ensures.1)

pub resumed-course-requires : goal.resumed-course-requires
resumed-course-requires c = c.requires.sound.falling

pub follow-answer-requires : goal.follow-answer-requires
follow-answer-requires c =
    let e = rw (lease-read c.args.rt.now c.requires.kept c.look_sought-axis.result c.look_sought-axis.ensures.1) at c.resumed-course.ensures in
    (resumed-leads c.args.rt.now c.search_after-search.result c.look_sought-axis.result c.resumed-course.result c.requires c.search_after-search.ensures.0 c.look_sought-axis.ensures.0 e).falling

pub go_on-requires : goal.go_on-requires
go_on-requires c =
    let e = rw (lease-read c.args.rt.now c.requires.kept c.look_sought-axis.result c.look_sought-axis.ensures.1) at c.resumed-course.ensures in
    left-good c.args.rt.now c.resumed-course.result (after_fallback c.args.rt.now.falling ((tables_in c.args.rt.now).capabilities) (asked_in c.args.rt.now) c.args.rt.now.revoked.ok (book_on c.args.rt.now)) c.requires (resumed-leads c.args.rt.now c.search_after-search.result c.look_sought-axis.result c.resumed-course.result c.requires c.search_after-search.ensures.0 c.look_sought-axis.ensures.0 e) c.follow-answer.new.rt c.follow-answer.result c.follow-answer.ensures

pub returns-then-is_going_on : goal.returns-then-is_going_on
returns-then-is_going_on c =
    let e = rw (lease-read c.args.rt.now c.requires.kept c.look_sought-axis.result c.look_sought-axis.ensures.1) at c.resumed-course.ensures in
    resumes c.args.rt.now c.resumed-course.result (after_fallback c.args.rt.now.falling ((tables_in c.args.rt.now).capabilities) (asked_in c.args.rt.now) c.args.rt.now.revoked.ok (book_on c.args.rt.now)) c.requires (resumed-leads c.args.rt.now c.search_after-search.result c.look_sought-axis.result c.resumed-course.result c.requires c.search_after-search.ensures.0 c.look_sought-axis.ensures.0 e) c.follow-answer.new.rt c.follow-answer.result c.follow-answer.ensures (holds c.is_going_on.ensures c.if-is_going_on.true) c.go_on.new.rt c.go_on.result c.go_on.ensures

pub returns-else-is_going_on : goal.returns-else-is_going_on
returns-else-is_going_on c =
    let e = rw (lease-read c.args.rt.now c.requires.kept c.look_sought-axis.result c.look_sought-axis.ensures.1) at c.resumed-course.ensures in
    ends_so c.args.rt.now c.resumed-course.result (after_fallback c.args.rt.now.falling ((tables_in c.args.rt.now).capabilities) (asked_in c.args.rt.now) c.args.rt.now.revoked.ok (book_on c.args.rt.now)) c.requires (resumed-leads c.args.rt.now c.search_after-search.result c.look_sought-axis.result c.resumed-course.result c.requires c.search_after-search.ensures.0 c.look_sought-axis.ensures.0 e) c.follow-answer.new.rt c.follow-answer.result c.follow-answer.ensures (fails c.is_going_on.ensures c.if-is_going_on.false)

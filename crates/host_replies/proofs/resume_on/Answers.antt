use Rattle.host_replies.proofs.Replies.{falls-low, resumes-on, ends_on}
use Rattle.host_replies.proofs.resume_on.Goals as goal

pub search_after-search-requires : goal.search_after-search-requires
search_after-search-requires c = falls-low _ c.falling_in-falling.ensures

pub resumed-course-requires : goal.resumed-course-requires
resumed-course-requires c = falls-low _ c.falling_in-falling.ensures

pub follow-answer-requires : goal.follow-answer-requires
follow-answer-requires c = c.requires

pub returns-then-is_going_on : goal.returns-then-is_going_on
returns-then-is_going_on c =
    resumes-on _ _ _ _ c.fixed_in-fixed.ensures c.numbers_in-numbers.ensures c.falling_in-falling.ensures c.revoked_in-revoked.ensures c.search_after-search.ensures.0 c.look_sought-axis.ensures.0 c.lease_at-lease.ensures
    c.resumed-course.ensures c.follow-answer.ensures _ c.is_going_on.ensures c.if-is_going_on.true

pub returns : goal.returns
returns c =
    ends_on _ _ _ _ c.fixed_in-fixed.ensures c.numbers_in-numbers.ensures c.falling_in-falling.ensures c.revoked_in-revoked.ensures c.search_after-search.ensures.0 c.look_sought-axis.ensures.0 c.lease_at-lease.ensures
    c.resumed-course.ensures c.follow-answer.ensures _ c.is_going_on.ensures c.if-is_going_on.false

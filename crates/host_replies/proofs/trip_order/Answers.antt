use native.Mathlib.Omega.{arith}
use Rattle.host_replies.proofs.Replies.{trips-on}
use Rattle.layout.proofs.Chains.{long_after}
use Rattle.host_replies.proofs.trip_order.Goals as goal

pub follow-requires : goal.follow-requires
follow-requires c = long_after c.requires c.keep_receipt.ensures.same

pub returns : goal.returns
returns c =
    trips-on _ _ c.fixed_in-fixed.ensures c.numbers_in-numbers.ensures c.submission_in-submission.ensures c.slot_in-slot.ensures.0 c.keep_receipt.ensures c.trips-course.ensures.0
    (c.trips-course.ensures.1 (omega arith)) c.follow.ensures

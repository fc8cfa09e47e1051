use native.Mathlib.Omega.{arith}
use Rattle.host_replies.proofs.Refreshes.{cancel-resumed, expiry-resumed}
use Rattle.host_replies.proofs.Replies.{falls-low}
use Rattle.host_replies.proofs.resume_way.Goals as goal

pub overflow_add-falling : goal.overflow_add-falling
overflow_add-falling c = omega (arith, (falls-low _ c.falling_in-falling.ensures).axis)

pub look_due-next-requires : goal.look_due-next-requires
look_due-next-requires c = (c.requires, omega (arith, (falls-low _ c.falling_in-falling.ensures).axis))

pub returns-in-Cancel : goal.returns-in-Cancel
returns-in-Cancel c = cancel-resumed _ _ c.falling_in-falling.ensures c.revoked_in-revoked.ensures c.resumes_by-way.ensures c.in-Cancel.is c.end_cancel.ensures

pub returns-else-next-lt8 : goal.returns-else-next-lt8
returns-else-next-lt8 c = expiry-resumed _ _ c.falling_in-falling.ensures c.revoked_in-revoked.ensures c.resumes_by-way.ensures c.in-Expiry.is _ c.look_due-next.ensures.0 c.if-next-lt8.false c.refresh.ensures

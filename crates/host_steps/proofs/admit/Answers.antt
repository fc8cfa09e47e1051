use native.Mathlib.Omega.{arith}
use mathlib.Core.Path.{◌∙◌}
use Rattle.host_steps.proofs.Orders.{end_fits, end-unfit, admits-on}
use Rattle.layout.proofs.Chains.{long_after}
use Rattle.host_steps.proofs.admit.Goals as goal

pub refuse-requires : goal.refuse-requires
refuse-requires c = c.requires.0

pub returns-then-not-end_fits : goal.returns-then-not-end_fits
returns-then-not-end_fits c = record { same = c.refuse.ensures.same; moves = λ g. absurd (end-unfit _ _ _ c.submission_in-submission.ensures c.end_fits.ensures c.if-not-end_fits.true-raw g) }

pub admitted-change-requires : goal.admitted-change-requires
admitted-change-requires c = end_fits _ _ c.end_fits.ensures c.if-not-end_fits.false-raw

pub put_waiting-requires : goal.put_waiting-requires
put_waiting-requires c = c.requires.0

pub put_carrying-requires : goal.put_carrying-requires
put_carrying-requires c = (long_after c.requires.0 c.put_waiting.ensures.same, c.requires.1)

pub next_place-requires : goal.next_place-requires
next_place-requires c = c.cursor_in-cursor.ensures.1

pub put_cursor-requires : goal.put_cursor-requires
put_cursor-requires c = long_after (long_after c.requires.0 c.put_waiting.ensures.same) c.put_carrying.ensures.same

pub put_lease-requires : goal.put_lease-requires
put_lease-requires c = (long_after (long_after (long_after c.requires.0 c.put_waiting.ensures.same) c.put_carrying.ensures.same) c.put_cursor.ensures.same, c.axis_or_spare-axis.ensures.1)

pub put_entry-requires : goal.put_entry-requires
put_entry-requires c = (long_after (long_after (long_after (long_after c.requires.0 c.put_waiting.ensures.same) c.put_carrying.ensures.same) c.put_cursor.ensures.same) c.put_lease.ensures.same, omega (arith, c.cursor_in-cursor.ensures.1))

pub shape_of-state : goal.shape_of-state
shape_of-state c = c.put_entry.ensures.same.long ∙ c.put_lease.ensures.same.long ∙ c.put_cursor.ensures.same.long ∙ c.put_carrying.ensures.same.long ∙ c.put_waiting.ensures.same.long

pub returns : goal.returns
returns c =
    admits-on _ _ c.submission_in-submission.ensures c.numbers_in-numbers.ensures c.cursor_in-cursor.ensures.0 c.carrying_in-carrying.ensures c.capability_at-capability.ensures c.axis_or_spare-axis.ensures.0
    c.lease_at-slot.ensures c.admitted-change.ensures c.awaiting.ensures c.next_place.ensures c.sequenced.ensures c.entered.ensures c.put_waiting.ensures
    c.put_carrying.ensures c.put_cursor.ensures c.put_lease.ensures c.put_entry.ensures

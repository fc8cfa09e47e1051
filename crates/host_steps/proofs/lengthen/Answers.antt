use Rattle.host_store.proofs.Placing.{recorded}
use native.Mathlib.Omega.{arith}
use Rattle.host_steps.proofs.Leases.{axis-fits, end_fits, unfit-renewal, lengthen-goes}
use Rattle.layout.proofs.Chains.{long_after}
use borrow.Author.Tests.{not-true, not-false}
use Rattle.host_steps.proofs.lengthen.Goals as goal

pub returns-then-not-fits : goal.returns-then-not-fits
returns-then-not-fits c = unfit-renewal _ c.args.axis c.renewal_in-renewal.ensures c.fits.ensures (not-true _ c.if-not-fits.true-raw) c.refuse.ensures

pub renewed-change-requires : goal.renewed-change-requires
renewed-change-requires c = (axis-fits c.args.axis c.renewal_in-renewal.result.now c.renewal_in-renewal.result.duration_ms c.fits.ensures (not-false _ c.if-not-fits.false-raw), end_fits c.args.axis c.renewal_in-renewal.result.now c.renewal_in-renewal.result.duration_ms c.fits.ensures (not-false _ c.if-not-fits.false-raw))

pub put_numbers-requires : goal.put_numbers-requires
put_numbers-requires c = c.requires.0

pub put_axis-requires : goal.put_axis-requires
put_axis-requires c = long_after c.requires.0 c.put_numbers.ensures.same

pub put_lease-requires : goal.put_lease-requires
put_lease-requires c = (long_after (long_after c.requires.0 c.put_numbers.ensures.same) c.put_axis.ensures.same, c.requires.1)

pub place-slot-requires : goal.place-slot-requires
place-slot-requires c = long_after (long_after (long_after c.requires.0 c.put_numbers.ensures.same) c.put_axis.ensures.same) c.put_lease.ensures.same

pub announce-requires : goal.announce-requires
announce-requires c = (long_after (long_after (long_after (long_after c.requires.0 c.put_numbers.ensures.same) c.put_axis.ensures.same) c.put_lease.ensures.same) c.place-slot.ensures.same, c.place-slot.ensures.inside)

pub put_receipt-requires : goal.put_receipt-requires
put_receipt-requires c = (long_after (long_after (long_after (long_after (long_after c.requires.0 c.put_numbers.ensures.same) c.put_axis.ensures.same) c.put_lease.ensures.same) c.place-slot.ensures.same) c.announce.ensures.same, c.place-slot.ensures.inside)

pub shape_of-state : goal.shape_of-state
shape_of-state c = omega (arith, c.put_numbers.ensures.same.long, c.put_axis.ensures.same.long, c.put_lease.ensures.same.long, c.place-slot.ensures.same.long, c.announce.ensures.same.long, c.put_receipt.ensures.same.long)

pub returns : goal.returns
returns c = lengthen-goes c.args.axis c.renewed-change.result c.renewal_in-renewal.ensures c.fixed_in-fixed.ensures c.numbers_in-numbers.ensures c.lease_at-held.ensures c.renewed-change.ensures _ c.numbers_with.ensures c.put_numbers.ensures c.put_axis.ensures _ c.lengthened.ensures c.put_lease.ensures (recorded _ c.place-slot.ensures c.announce.ensures c.put_receipt.ensures)

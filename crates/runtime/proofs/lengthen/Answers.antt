use Rattle.model.specs.Records.{no_lease}
use Rattle.runtime.proofs.Looks.{lease-low}
use Rattle.runtime.proofs.Cells.{up_to, same_at}
use Rattle.runtime.proofs.Leases.{held-shown, lengthening-kept, lengthens, renewal-axis, renewal-fits, twice-so}
use Rattle.runtime.specs.Runtimes.{asked_in, hand_in, tables_in}
use Rattle.runtime.proofs.lengthen.Goals as goal

pub bounds-rt-axis : goal.bounds-rt-axis
bounds-rt-axis c = up_to 8 9 _ tt (renewal-axis c.args.rt.now (c.requires.1.1) c.args.axis (c.requires.1.0))

pub renewed-change-requires : goal.renewed-change-requires
renewed-change-requires c = ((renewal-axis c.args.rt.now (c.requires.1.1) c.args.axis (c.requires.1.0)), renewal-fits c.args.rt.now (c.requires.1.1))

pub place-slot-requires : goal.place-slot-requires
place-slot-requires c = rw (twice-so c.renewed-change.result.expires_at c.args.rt.now.renewal.renewal c.args.axis c.args.rt.now.leases _ _) (lengthening-kept c.args.rt.now c.renewed-change.result c.args.axis c.requires.0.kept (renewal-axis c.args.rt.now c.requires.1.1 c.args.axis c.requires.1.0))

pub returns : goal.returns
returns c =
    lengthens c.args.rt.now c.renewed-change.result c.args.axis c.place-slot.new.rt c.place-slot.result c.requires.0 (renewal-axis c.args.rt.now c.requires.1.1 c.args.axis c.requires.1.0) (rw (twice-so c.renewed-change.result.expires_at c.args.rt.now.renewal.renewal c.args.axis c.args.rt.now.leases _ _) at c.place-slot.ensures)
    (c.renewed-change.ensures (tables_in c.args.rt.now) (asked_in c.args.rt.now) (hand_in c.args.rt.now) c.requires.0.sound
    (rw (same_at _ no_lease c.args.rt.now.leases c.args.axis (lease-low c.args.rt.now c.requires.0.kept c.args.axis (up_to 8 9 _ tt (renewal-axis c.args.rt.now c.requires.1.1 c.args.axis c.requires.1.0)))) (held-shown c.args.rt.now c.requires.0 c.args.rt.now.renewal.owner c.args.rt.now.renewal.lease_id c.args.axis c.requires.1.0 (up_to 8 9 _ tt (renewal-axis c.args.rt.now c.requires.1.1 c.args.axis c.requires.1.0)))))

pub bounds-rt-axis-2 : goal.bounds-rt-axis-2
bounds-rt-axis-2 c = up_to 8 9 _ tt (renewal-axis c.args.rt.now (c.requires.1.1) c.args.axis (c.requires.1.0))

pub bounds-rt-axis-3 : goal.bounds-rt-axis-3
bounds-rt-axis-3 c = up_to 8 9 _ tt (renewal-axis c.args.rt.now (c.requires.1.1) c.args.axis (c.requires.1.0))

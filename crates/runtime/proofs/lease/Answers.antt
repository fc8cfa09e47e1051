use Rattle.runtime.specs.Promises.{spare_or}
use Rattle.runtime.proofs.Told.{lease-read}
use Rattle.runtime.proofs.Showing.{lease-reads}
use Rattle.runtime.proofs.lease.Goals as goal

pub bounds-rt-at : goal.bounds-rt-at
bounds-rt-at c = c.axis_or_spare-at.ensures.1

pub returns : goal.returns
returns c = rw (c.lease_shown.ensures, c.axis_or_spare-at.ensures.0, lease-read c.args.rt.now c.requires.kept (spare_or c.args.axis) (rw c.axis_or_spare-at.ensures.0 at c.axis_or_spare-at.ensures.1)) (lease-reads c.args.rt.now c.args.axis c.requires.kept)

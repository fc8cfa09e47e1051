use Rattle.runtime.specs.Promises.{spare_or}
use Rattle.runtime.proofs.Told.{lease-read}
use Rattle.runtime.proofs.Showing.{lease-answered}
use Rattle.runtime.proofs.answered_lease.Goals as goal

pub bounds-rt-at : goal.bounds-rt-at
bounds-rt-at c = c.axis_or_spare-at.ensures.1

pub returns : goal.returns
returns c = rw (c.lease_in.ensures, c.axis_or_spare-at.ensures.0, lease-read c.args.rt.now c.requires.kept (spare_or c.args.rt.now.axis) (rw c.axis_or_spare-at.ensures.0 at c.axis_or_spare-at.ensures.1)) (lease-answered c.args.rt.now c.requires.kept)

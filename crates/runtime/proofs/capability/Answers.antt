use Rattle.decide_read.specs.Shown.{place_or16}
use Rattle.runtime.proofs.Told.{record-read}
use Rattle.runtime.proofs.Showing.{capability-reads, count-few}
use Rattle.runtime.proofs.capability.Goals as goal

pub bounds-rt-at : goal.bounds-rt-at
bounds-rt-at c = c.place_or_spare-at.ensures.1

pub place_or_spare-at-requires : goal.place_or_spare-at-requires
place_or_spare-at-requires c = count-few c.args.rt.now c.requires.kept c.args.index

pub returns : goal.returns
returns c = rw (c.capability_shown.ensures, c.place_or_spare-at.ensures.0, record-read c.args.rt.now c.requires.kept (place_or16 c.args.index c.args.rt.now.fixed.count) (rw c.place_or_spare-at.ensures.0 at c.place_or_spare-at.ensures.1)) (capability-reads c.args.rt.now c.requires.kept c.args.index)

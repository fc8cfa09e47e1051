use Rattle.runtime.proofs.Trials.{next-axis, next-tries}
use Rattle.runtime.proofs.try_next.Goals as goal

pub try_from-requires : goal.try_from-requires
try_from-requires c = (c.requires.opened, next-axis c.args.rt.now c.requires)

pub returns : goal.returns
returns c = next-tries c.args.rt.now c.args.ok (rw c.still_good-good.ensures at c.try_from.ensures)

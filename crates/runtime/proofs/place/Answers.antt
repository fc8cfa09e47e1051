use mathlib.Core.Path.{refl}
use Rattle.runtime.proofs.Circles.{head-inside, others-inside, rejected-inside, slot-fits, slot-inside}
use Rattle.runtime.proofs.place.Goals as goal

pub bounds-rt-index : goal.bounds-rt-index
bounds-rt-index c = head-inside _ (c.requires.placed.receipts.numbered.rejections)

pub bounds-rt-index-2 : goal.bounds-rt-index-2
bounds-rt-index-2 c = head-inside _ (c.requires.placed.receipts.numbered.others)

pub bounds-rt-change : goal.bounds-rt-change
bounds-rt-change c = rejected-inside c.placed-change.result c.placed-change.ensures

pub bounds-rt-change-2 : goal.bounds-rt-change-2
bounds-rt-change-2 c = others-inside c.placed-change.result c.placed-change.ensures

pub placed-change-requires : goal.placed-change-requires
placed-change-requires c = c.requires.placed.receipts.numbered

pub returns : goal.returns
returns c = record { placement = c.placed-change.result; places = c.placed-change.ensures; stored = rw (c.recording-rt.ensures, c.bump_counter-rt.ensures) refl; slot = refl; inside = slot-inside c.args.rt.now c.args.rejection c.placed-change.result c.requires c.placed-change.ensures }

pub overflow_cast-rt : goal.overflow_cast-rt
overflow_cast-rt c = record { fits = slot-fits c.args.rt.now c.args.rejection c.placed-change.result c.requires c.placed-change.ensures }

pub overflow_cast-rt-2 : goal.overflow_cast-rt-2
overflow_cast-rt-2 c = record { fits = slot-fits c.args.rt.now c.args.rejection c.placed-change.result c.requires c.placed-change.ensures }

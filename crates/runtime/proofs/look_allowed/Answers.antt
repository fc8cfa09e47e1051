use Rattle.model.specs.Records.{no_capability}
use mathlib.Core.Path.{refl}
use Rattle.runtime.proofs.Cells.{step-nearer, same_at}
use Rattle.runtime.proofs.Looks.{mask-all, mask-on, place_inside, low-place}
use Rattle.runtime.proofs.look_allowed.Goals as goal

pub bounds-rt-i : goal.bounds-rt-i
bounds-rt-i c = place_inside c.args.rt.now c.requires (c.loop-i.i) c.loop-i-test.true

pub returns : goal.returns
returns c = mask-all c.args.rt.now c.requires (c.loop-i.i) c.args.axis (c.loop-i.mask) c.loop-i-test.false (c.loop-i.invariant.so_far)

pub loop-i-init : goal.loop-i-init
loop-i-init c = record { so_far = refl }

pub loop-i-preserved : goal.loop-i-preserved
loop-i-preserved c = record { so_far = mask-on c.args.rt.now c.requires (c.loop-i.i) c.args.axis (c.loop-i.mask) c.allowed_step-mask.result c.loop-i-test.true (rw (same_at _ no_capability c.args.rt.now.capabilities c.loop-i.i (low-place c.args.rt.now c.requires c.loop-i.i c.loop-i-test.true)) at c.allowed_step-mask.ensures) (c.loop-i.invariant.so_far) }

pub loop-i-smaller : goal.loop-i-smaller
loop-i-smaller c = step-nearer (c.args.rt.now.fixed.count) (c.loop-i.i) c.loop-i-test.true

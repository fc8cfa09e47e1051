use Rattle.runtime.proofs.look_place.Goals.{then-loop-i-test+else-rt-i, else-loop-i-test}
use Rattle.model.specs.Records.{no_capability}
use mathlib.Core.Path.{◌∙◌, refl}
use Rattle.runtime.proofs.Cells.{step-nearer, apart, meet, same_at}
use Rattle.runtime.proofs.Looks.{either_way, place_here, place_inside, place-on, low-place, place-past}
use Rattle.runtime.proofs.look_place.Goals as goal

pub bounds-rt-i : goal.bounds-rt-i
bounds-rt-i c = place_inside c.args.rt.now c.requires (c.loop-i.i) c.loop-i-test.true

pub returns-then-i-count : goal.returns-then-i-count
returns-then-i-count c =
    elim c.loop-i-test.branch [
      | then-loop-i-test+else-rt-i w ↦ place_here c.args.rt.now c.requires c.loop-i.i c.args.id c.if-i-count.true (meet _ _ (rw (same_at _ no_capability c.args.rt.now.capabilities c.loop-i.i (low-place c.args.rt.now c.requires c.loop-i.i c.if-i-count.true)) at w.if-rt-i.false)) c.loop-i.invariant.so_far
      | else-loop-i-test w ↦ either_way c.if-i-count.true w.loop-i-test.false
    ]

pub returns-else-i-count : goal.returns-else-i-count
returns-else-i-count c = place-past c.args.rt.now c.requires c.loop-i.i c.args.id c.if-i-count.false c.loop-i.invariant.so_far

pub loop-i-init : goal.loop-i-init
loop-i-init c = record { so_far = refl }

pub loop-i-preserved : goal.loop-i-preserved
loop-i-preserved c = record { so_far = place-on c.args.rt.now c.requires c.loop-i.i c.args.id c.loop-i-test.true (apart _ _ (rw (same_at _ no_capability c.args.rt.now.capabilities c.loop-i.i (low-place c.args.rt.now c.requires c.loop-i.i c.loop-i-test.true)) at c.if-rt-i.true)) ∙ c.loop-i.invariant.so_far }

pub loop-i-smaller : goal.loop-i-smaller
loop-i-smaller c = step-nearer (c.args.rt.now.fixed.count) (c.loop-i.i) c.loop-i-test.true

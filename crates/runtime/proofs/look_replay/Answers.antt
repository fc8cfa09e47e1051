use Rattle.runtime.proofs.look_replay.Goals.{then-loop-i-test+else-not-is_hit, else-loop-i-test}
use mathlib.Core.Path.{◌∙◌, refl}
use Rattle.runtime.proofs.Cells.{step-nearer, fails, bears}
use Rattle.runtime.proofs.Looks.{either_way, entry_here, entry-on, entry_past}
use Rattle.runtime.proofs.look_replay.Goals as goal

pub place_before-requires : goal.place_before-requires
place_before-requires c = (c.requires.kept.placed.replay.within, c.loop-i-test.true)

pub place_before-requires-then-i-lt32 : goal.place_before-requires-then-i-lt32
place_before-requires-then-i-lt32 c = (c.requires.kept.placed.replay.within, c.if-i-lt32.true)

pub returns-then-i-lt32 : goal.returns-then-i-lt32
returns-then-i-lt32 c =
    elim c.loop-i-test.branch [
      | then-loop-i-test+else-not-is_hit w ↦
          rw c.place_before-then-i-lt32.ensures.0 (entry_here c.args.rt.now c.requires c.args.owner c.args.action_id c.loop-i.i c.if-i-lt32.true (bears (rw w.place_before.ensures.0 at w.is_hit.ensures) w.if-not-is_hit.false) c.loop-i.invariant.so_far)
      | else-loop-i-test w ↦ either_way c.if-i-lt32.true w.loop-i-test.false
    ]

pub returns-else-i-lt32 : goal.returns-else-i-lt32
returns-else-i-lt32 c = entry_past c.args.rt.now c.requires c.args.owner c.args.action_id c.loop-i.i c.if-i-lt32.false c.loop-i.invariant.so_far

pub loop-i-init : goal.loop-i-init
loop-i-init c = record { so_far = refl }

pub loop-i-preserved : goal.loop-i-preserved
loop-i-preserved c = record { so_far = entry-on c.args.rt.now c.requires c.args.owner c.args.action_id c.loop-i.i c.loop-i-test.true (fails (rw c.place_before.ensures.0 at c.is_hit.ensures) c.if-not-is_hit.true) ∙ c.loop-i.invariant.so_far }

pub loop-i-smaller : goal.loop-i-smaller
loop-i-smaller c = step-nearer 32 (c.loop-i.i) c.loop-i-test.true

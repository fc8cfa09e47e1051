use Rattle.runtime.proofs.Cells.{holds, fails}
use native.Mathlib.Omega.{arith}
use mathlib.Core.Path.{refl}
use Rattle.runtime.proofs.look_hit.Goals.{then-wanted, else-wanted}
use Rattle.runtime.proofs.Looks.{hit-wanted, hit-unwanted}
use Rattle.runtime.proofs.look_hit.Goals as goal

pub bounds-rt-at : goal.bounds-rt-at
bounds-rt-at c =
    elim c.if-wanted.branch [
      | then-wanted w ↦ rw w.at-is w.look_replay-at.ensures.inside
      | else-wanted w ↦ rw w.at-is (omega arith)
    ]

pub look_replay-at-requires : goal.look_replay-at-requires
look_replay-at-requires c = c.requires

pub returns : goal.returns
returns c =
    rw c.hit_at.ensures (
    elim c.if-wanted.branch [
      | then-wanted w ↦ rw w.at-is (hit-wanted c.args.rt.now c.args.owner c.args.action_id c.args.wanted (holds refl w.if-wanted.true) w.look_replay-at.result w.look_replay-at.ensures)
      | else-wanted w ↦ rw w.at-is (hit-unwanted c.args.rt.now c.args.owner c.args.action_id c.args.wanted (fails refl w.if-wanted.false))
    ]
    )

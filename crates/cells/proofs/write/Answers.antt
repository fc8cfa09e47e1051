use Prim.Native.Nat.{ℕ, ◌+◌}
use mathlib.Core.List.{List}
use mathlib.Core.Path.{refl, ap, ◌∙◌}
use lib.ListN.{get_or, set}
use Rattle.cells.specs.Cells.{put}
use Rattle.cells.proofs.Copies.{put-more}
use Rattle.cells.proofs.write.Goals as goal

pub loop-i-init : goal.loop-i-init
unfolding put
loop-i-init c = refl

pub loop-i-preserved : goal.loop-i-preserved
loop-i-preserved c =
    let a = c.args in
    let i = c.loop-i.i in
    ap (λ (w : List ℕ). set w (a.at + i) (get_or a.words.now i 0)) c.loop-i.invariant ∙ put-more a.state.now a.at a.words.now i c.loop-i-test.true

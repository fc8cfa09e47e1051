use borrow.Author.Rules.{rules}
use mathlib.Core.Path.{refl}
use native.Mathlib.Omega.{arith}
use Rattle.host_store.proofs.Finds.{entry-then, entry_found, entry-none}
use Rattle.host_store.proofs.look_replay.Goals.{then-loop-i-test+else-not-is_hit_at, else-loop-i-test}
use Rattle.host_store.proofs.look_replay.Goals as goal

pub loop-i-init : goal.loop-i-init
loop-i-init c = λ good. refl

pub loop-i-preserved : goal.loop-i-preserved
loop-i-preserved c =
    entry-then _ _ c.cursor_in-cursor.ensures.0 _ _ _ c.loop-i.invariant _ c.loop-i-test.true
    c.is_hit_at.ensures
    c.if-not-is_hit_at.true-raw

pub returns-else-i-lt32 : goal.returns-else-i-lt32
returns-else-i-lt32 c = (entry-none _ _ c.cursor_in-cursor.ensures.0 _ _ _ c.loop-i.invariant c.if-i-lt32.false, search rules)

pub returns-then-i-lt32 : goal.returns-then-i-lt32
returns-then-i-lt32 c =
    let e = c.place_before.ensures in
    elim c.loop-i-test.branch [
      | then-loop-i-test+else-not-is_hit_at w ↦ (
        entry_found _ _ c.cursor_in-cursor.ensures.0 _ _ _ c.loop-i.invariant _ _ c.if-i-lt32.true w.is_hit_at.ensures w.if-not-is_hit_at.false-raw e.0,
        omega (arith, e.1),
      )
      | else-loop-i-test w ↦ absurd (omega (arith, c.if-i-lt32.true, w.loop-i-test.false))
    ]

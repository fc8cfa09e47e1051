use borrow.Author.Rules.{rules}
use mathlib.Core.Path.{refl}
use native.Mathlib.Omega.{arith}
use Rattle.host_store.proofs.Finds.{count-few, place-then, place_found, place_none}
use Rattle.host_store.proofs.look_place.Goals.{then-loop-i-test+else-not-has_id_at, else-loop-i-test}
use Rattle.host_store.proofs.look_place.Goals as goal

pub loop-i-init : goal.loop-i-init
loop-i-init c = λ good. refl

pub has_id_at-requires : goal.has_id_at-requires
has_id_at-requires c =
    let few = count-few _ _ c.fixed_in-fixed.ensures in
    (search rules, omega (arith, few, c.loop-i-test.true))

pub loop-i-preserved : goal.loop-i-preserved
loop-i-preserved c =
    place-then _ _ c.fixed_in-fixed.ensures _ _ c.loop-i.invariant _ c.loop-i-test.true
    c.has_id_at.ensures
    c.if-not-has_id_at.true-raw

pub returns-else-i-count : goal.returns-else-i-count
returns-else-i-count c = (place_none _ _ c.fixed_in-fixed.ensures _ _ c.loop-i.invariant c.if-i-count.false, search rules)

pub returns-then-i-count : goal.returns-then-i-count
returns-then-i-count c =
    let f = c.fixed_in-fixed in
    let few = count-few _ _ f.ensures in
    elim c.loop-i-test.branch [
      | then-loop-i-test+else-not-has_id_at w ↦ (
        place_found _ _ f.ensures _ _ c.loop-i.invariant _ c.if-i-count.true w.has_id_at.ensures w.if-not-has_id_at.false-raw,
        omega (arith, few, c.if-i-count.true),
      )
      | else-loop-i-test w ↦ absurd (omega (arith, c.if-i-count.true, w.loop-i-test.false))
    ]

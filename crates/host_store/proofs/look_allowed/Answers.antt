use borrow.Author.Rules.{rules}
use mathlib.Core.Path.{refl}
use native.Mathlib.Omega.{arith}
use Rattle.host_store.proofs.Finds.{count-few, mask-then, mask-whole}
use Rattle.host_store.proofs.look_allowed.Goals as goal

pub loop-i-init : goal.loop-i-init
loop-i-init c = λ good. refl

pub capability_at-requires : goal.capability_at-requires
capability_at-requires c =
    let few = count-few _ _ c.fixed_in-fixed.ensures in
    (search rules, omega (arith, few, c.loop-i-test.true))

pub loop-i-preserved : goal.loop-i-preserved
loop-i-preserved c =
    mask-then _ _ c.fixed_in-fixed.ensures _ _ c.loop-i.mask c.loop-i.invariant _ _ c.loop-i-test.true
    c.capability_at.ensures
    c.allowed_step-mask.ensures

pub returns : goal.returns
returns c = mask-whole _ _ c.fixed_in-fixed.ensures _ _ _ c.loop-i.invariant c.loop-i-test.false

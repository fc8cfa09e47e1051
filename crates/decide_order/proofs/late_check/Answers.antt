use mathlib.Core.Bool.{true, false}
use mathlib.Core.Path.{refl, sym, ◌∙◌}
use borrow.Author.Tests.{lt-ltb, le-ltb}
use Rattle.decide_order.proofs.Groups.{passed, failed, sequence-by}
use Rattle.decide_order.proofs.Shown.{late-shown}
use Rattle.decide_order.proofs.late_check.Goals as goal

pub returns-then-action-lease : goal.returns-then-action-lease
returns-then-action-lease c = λ f t k p. sym (late-shown _ f _ t k p ∙ failed _ _ (sym (sequence-by _ _ false (le-ltb _ _ c.if-action-lease.true))) refl)

pub returns-in-Failed : goal.returns-in-Failed
returns-in-Failed c =
    λ f t k p.
    sym
    (late-shown _ f _ t k p
    ∙ passed _ _ (sym (sequence-by _ _ true (lt-ltb _ _ c.if-action-lease.false))) refl
    ∙ failed _ _ c.time_check-time.ensures c.in-Failed.is)

pub returns-in-Passed : goal.returns-in-Passed
returns-in-Passed c =
    λ f t k p.
    c.state_check.ensures
    ∙ sym
    (late-shown _ f _ t k p
    ∙ passed _ _ (sym (sequence-by _ _ true (lt-ltb _ _ c.if-action-lease.false))) refl
    ∙ passed _ _ c.time_check-time.ensures c.in-Passed.is)

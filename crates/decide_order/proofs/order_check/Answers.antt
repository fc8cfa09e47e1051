use mathlib.Core.Bool.{true, false}
use mathlib.Core.Path.{sym, ap, ◌∙◌}
use Rattle.decide_ready.proofs.Checks.{none-failed}
use Rattle.decide_order.proofs.Groups.{same-failure, passed, failed, answer, admission-parts, duplicate-by}
use Rattle.decide_order.proofs.Shown.{early-stand}
use Rattle.decide_order.proofs.order_check.Goals as goal

pub returns-in-Failed : goal.returns-in-Failed
returns-in-Failed c = λ f t known k e found. same-failure _ _ (sym (ap answer (admission-parts _ _) ∙ failed _ _ e c.in-Failed.is))

pub returns-then-found : goal.returns-then-found
returns-then-found c =
    λ f t known k e found.
    let told = c.in-Passed.is in
    same-failure _ _
    (sym
    (ap answer (admission-parts _ _)
    ∙ passed _ _ e told
    ∙ duplicate-by _ _ true (sym (found told) ∙ c.if-found.true)))

pub returns : goal.returns
returns c =
    λ f t known k e found.
    let told = c.in-Passed.is in
    let stand = early-stand _ f _ t k (none-failed _ (sym told ∙ e)) in
    same-failure _ _
    (sym
    (ap answer (admission-parts _ _)
    ∙ passed _ _ e told
    ∙ duplicate-by _ _ false (sym (found told) ∙ c.if-found.false)
    ∙ sym (c.late_check-late.ensures f t stand.0 stand.1)
    ∙ c.ruling_of.ensures))

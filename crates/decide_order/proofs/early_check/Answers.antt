use mathlib.Core.Bool.{true, false}
use mathlib.Core.Path.{refl, sym, ◌∙◌}
use Rattle.state.specs.State.{book_of}
use Rattle.decide_order.proofs.Groups.{passed, failed, form-by}
use Rattle.decide_order.proofs.Shown.{id-low as low, early-shown}
use Rattle.decide_order.proofs.early_check.Goals as goal

pub returns-in-Failed : goal.returns-in-Failed
returns-in-Failed c =
    λ t q h cap sound k.
    sym (early-shown _ _ _ t k ∙ failed _ _ (c.ready-readiness.ensures t) c.in-Failed.is)

pub returns-in-Failed-identity : goal.returns-in-Failed-identity
returns-in-Failed-identity c =
    λ t q h cap sound k.
    sym
    (early-shown _ _ _ t k
    ∙ passed _ _ (c.ready-readiness.ensures t) c.in-Passed.is
    ∙ failed _ _ c.identity_check-identity.ensures c.in-Failed-identity.is)

pub returns-in-Failed-authority : goal.returns-in-Failed-authority
returns-in-Failed-authority c =
    λ t q h cap sound k.
    sym
    (early-shown _ _ _ t k
    ∙ passed _ _ (c.ready-readiness.ensures t) c.in-Passed.is
    ∙ passed _ _ c.identity_check-identity.ensures c.in-Passed-identity.is
    ∙ failed _ _ (c.authority_check-authority.ensures (low sound k)) c.in-Failed-authority.is)

pub returns-then-not-is_well_formed : goal.returns-then-not-is_well_formed
unfolding book_of
returns-then-not-is_well_formed c =
    λ t q h cap sound k.
    let a = c.args in
    sym
    (early-shown a.submission a.fixed a.numbers t k
    ∙ passed _ _ (c.ready-readiness.ensures t) c.in-Passed.is
    ∙ passed _ _ c.identity_check-identity.ensures c.in-Passed-identity.is
    ∙ passed _ _ (c.authority_check-authority.ensures (low sound k)) c.in-Passed-authority.is
    ∙ form-by _ _ false (sym (c.is_well_formed.ensures _ refl) ∙ c.if-not-is_well_formed.true))

pub returns : goal.returns
unfolding book_of
returns c =
    λ t q h cap sound k.
    let a = c.args in
    sym
    (early-shown a.submission a.fixed a.numbers t k
    ∙ passed _ _ (c.ready-readiness.ensures t) c.in-Passed.is
    ∙ passed _ _ c.identity_check-identity.ensures c.in-Passed-identity.is
    ∙ passed _ _ (c.authority_check-authority.ensures (low sound k)) c.in-Passed-authority.is
    ∙ form-by _ _ true (sym (c.is_well_formed.ensures _ refl) ∙ c.if-not-is_well_formed.false))

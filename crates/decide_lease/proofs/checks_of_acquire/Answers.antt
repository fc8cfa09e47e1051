use mathlib.Core.Path.{◌≡◌, sym, ap, ◌∙◌}
use Prim.Native.Nat.{ℕ}
use Rattle.model.specs.declared.LeaseRequest.{LeaseRequest}
use Rattle.rules.specs.Admission.{first_failing, ready, acquire_checks}
use Rattle.rules.specs.Book.{Book}
use Rattle.state.specs.State.{book_of}
use Rattle.decide_ready.specs.Checks.{check_of, after_ready}
use Rattle.decide_ready.specs.declared.Check.TheVariants.{Passed}
use Rattle.decide_ready.proofs.Checks.{not-ready, is-ready, acquire-begins}
use Rattle.decide_lease.proofs.checks_of_acquire.Goals as goal

-- readiness is passed
past-ready : (r : LeaseRequest) (now : ℕ) (b : Book) → check_of (first_failing (ready now b)) ≡ Passed
    → first_failing (acquire_checks r now b) ≡ first_failing (after_ready (acquire_checks r now b))
past-ready r now b e = is-ready now b (acquire_checks r now b) (acquire-begins r now b) e

pub returns-in-Failed : goal.returns-in-Failed
returns-in-Failed c =
    λ t q h s shown.
    let a = c.args in
    let b = book_of a.fixed a.numbers t in
    sym
    (not-ready a.now b (acquire_checks a.request a.now b) (acquire-begins _ _ _) _
    (sym (c.ready-readiness.ensures t) ∙ c.in-Failed.is))

pub returns-then-not-is_valid_request : goal.returns-then-not-is_valid_request
unfolding acquire_checks ready first_failing
returns-then-not-is_valid_request c =
    λ t q h s shown.
    let a = c.args in
    sym
    (ap check_of (past-ready a.request a.now (book_of a.fixed a.numbers t) (sym (c.ready-readiness.ensures t) ∙ c.in-Passed.is))
    ∙ simp (sym (c.is_valid_request.ensures a.numbers t q h s) ∙ c.if-not-is_valid_request.true))

pub returns : goal.returns
unfolding acquire_checks ready first_failing
returns c =
    λ t q h s shown.
    let a = c.args in
    sym
    (ap check_of (past-ready a.request a.now (book_of a.fixed a.numbers t) (sym (c.ready-readiness.ensures t) ∙ c.in-Passed.is))
    ∙ simp (sym (c.is_valid_request.ensures a.numbers t q h s) ∙ c.if-not-is_valid_request.false)
    (sym (c.grant_check.ensures a.fixed a.numbers t shown)))

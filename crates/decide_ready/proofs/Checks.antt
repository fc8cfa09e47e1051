-- Lists of checks, one after the other. Assumes nothing.
use Prim.Native.Nat.{ℕ}
use mathlib.Core.Bool.{Bool, true, false, cond}
use mathlib.Core.List.{List, [], ◌∷◌, ◌++◌}
use Rattle.std.specs.Prelude.{Option, Some, None}
use mathlib.Core.Path.{◌≡◌, refl, ap, ◌∙◌}
use native.Mathlib.Omega.{arith}
use Rattle.model.specs.declared.LeaseRequest.{LeaseRequest}
use Rattle.model.specs.declared.Reason.{Reason}
use Rattle.model.specs.declared.Renewal.{Renewal}
use Rattle.rules.specs.Admission.{Check, first_failing, ready, acquire_checks, renew_checks}
use Rattle.rules.specs.Book.{Book}
use Rattle.decide_ready.specs.declared.Check.TheVariants.{Passed, Failed}
use Rattle.decide_ready.specs.Checks.{check_of, after_ready}

-- what the answer says of the first that fails
pub none-failed : (o : Option Reason) → Passed ≡ check_of o → o ≡ None
none-failed None e = refl
none-failed (Some r) e = cc

pub some-failed : (o : Option Reason) (reason : Reason) → Failed reason ≡ check_of o → o ≡ Some reason
some-failed None reason e = cc
some-failed (Some r) reason e = cc

module _ (ys : List Check) where
  failed-first : (xs : List Check) (reason : Reason) → check_of (first_failing xs) ≡ Failed reason → check_of (first_failing (xs ++ ys)) ≡ Failed reason
  unfolding first_failing
  failed-first [] reason e = let z : ◌≡◌ {A = ℕ} 0 1 = cc in absurd (omega arith)
  failed-first (x ∷ xs) reason e = go x.holds (failed-first xs reason) e
    where
      go : (t : Bool)
          → (check_of (first_failing xs) ≡ Failed reason → check_of (first_failing (xs ++ ys)) ≡ Failed reason)
          → check_of (cond t (first_failing xs) (Some x.reason)) ≡ Failed reason
          → check_of (cond t (first_failing (xs ++ ys)) (Some x.reason)) ≡ Failed reason
      go true rest h = rest h
      go false rest h = h

  passed_first : (xs : List Check) → check_of (first_failing xs) ≡ Passed → first_failing (xs ++ ys) ≡ first_failing ys
  unfolding first_failing
  passed_first [] e = refl
  passed_first (x ∷ xs) e = go x.holds (passed_first xs) e
    where
      go : (t : Bool)
          → (check_of (first_failing xs) ≡ Passed → first_failing (xs ++ ys) ≡ first_failing ys)
          → check_of (cond t (first_failing xs) (Some x.reason)) ≡ Passed
          → cond t (first_failing (xs ++ ys)) (Some x.reason) ≡ first_failing ys
      go true rest h = rest h
      go false rest h = let z : ◌≡◌ {A = ℕ} 0 1 = cc in absurd (omega arith)

-- checks that begin with readiness
module _ (now : ℕ) (b : Book) (all : List Check) (begins : all ≡ ready now b ++ after_ready all) where
  pub not-ready : (reason : Reason) → check_of (first_failing (ready now b)) ≡ Failed reason → check_of (first_failing all) ≡ Failed reason
  not-ready reason e = ap (λ l. check_of (first_failing l)) begins ∙ failed-first (after_ready all) (ready now b) reason e

  pub is-ready : check_of (first_failing (ready now b)) ≡ Passed → first_failing all ≡ first_failing (after_ready all)
  is-ready e = ap first_failing begins ∙ passed_first (after_ready all) (ready now b) e

pub acquire-begins : (r : LeaseRequest) (now : ℕ) (b : Book) → acquire_checks r now b ≡ ready now b ++ after_ready (acquire_checks r now b)
unfolding acquire_checks ready
acquire-begins r now b = refl

pub renew-begins : (r : Renewal) (b : Book) → renew_checks r b ≡ ready r.now b ++ after_ready (renew_checks r b)
unfolding renew_checks ready
renew-begins r b = refl

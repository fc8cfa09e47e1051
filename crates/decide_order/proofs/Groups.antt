-- Lists of checks, group by group. Assumes nothing.
use mathlib.Core.Bool.{Bool, true, false, cond, not}
use mathlib.Core.List.{List, [], ◌∷◌, ◌++◌}
use Rattle.std.specs.Prelude.{Option, Some, None}
use mathlib.Core.Path.{◌≡◌, refl, sym}
use lib.Dec.{ltb}
use Rattle.model.specs.declared.Capability.{Capability}
use Rattle.model.specs.declared.Lease.{Lease}
use Rattle.model.specs.declared.Reason.{Reason}
use Rattle.model.specs.declared.Reason.TheVariants.{Duplicate, OldSequence, Invalid}
use Rattle.model.specs.declared.Submission.{Submission}
use Rattle.rules.specs.Admission as Rules
use Rattle.rules.specs.Admission.{check, first_failing, holds_of, is_some, ready, order_capability, order_lease, well_formed, replayed, admission}
use Rattle.rules.specs.Book.{Book}
use Rattle.decide_ready.specs.declared.Check.{Check}
use Rattle.decide_ready.specs.declared.Check.TheVariants.{Passed, Failed}
use Rattle.decide_ready.specs.Checks.{check_of}
use Rattle.decide_ready.proofs.Checks.{none-failed, some-failed}
use Rattle.decide_order.specs.Checks.{early_checks, late_checks, identity_checks, authority_checks, form_checks, sequence_checks, time_checks, state_checks}

-- one list after the other -----------------------------------------------------------------------------------------------

-- what a list of checks answers
abbrev pub answer : List Rules.Check → Check
answer checks = check_of (first_failing checks)

abbrev and_then : Check → Check → Check
and_then Passed y = y
and_then (Failed reason) y = Failed reason

answer-append : (xs ys : List Rules.Check) → answer (xs ++ ys) ≡ and_then (answer xs) (answer ys)
unfolding first_failing
answer-append [] ys = refl
answer-append (x ∷ xs) ys = by_first x.holds (answer-append xs ys)
  where
    by_first : (t : Bool) → answer (xs ++ ys) ≡ and_then (answer xs) (answer ys)
        → check_of (cond t (first_failing (xs ++ ys)) (Some x.reason))
        ≡ and_then (check_of (cond t (first_failing xs) (Some x.reason))) (answer ys)
    by_first true e = e
    by_first false e = refl

module _ (xs ys : List Rules.Check) {x : Check} (e : x ≡ answer xs) where
  pub passed : x ≡ Passed → answer (xs ++ ys) ≡ answer ys
  passed k = rw (answer-append xs ys, ← e, k)

  pub failed : {reason : Reason} → x ≡ Failed reason → answer (xs ++ ys) ≡ Failed reason
  failed k = rw (answer-append xs ys, ← e, k)

-- the answer tells the first that fails
pub same-failure : (o p : Option Reason) → check_of o ≡ check_of p → o ≡ p
same-failure None p e = sym (none-failed p e)
same-failure (Some reason) p e = sym (some-failed p reason e)

-- the groups -------------------------------------------------------------------------------------------------------------

module _ (s : Submission) (b : Book) where
  pub admission-parts : admission s b ≡ early_checks s b ++ (check (not (is_some (replayed s b))) Duplicate ∷ late_checks s b)
  unfolding admission ready
  admission-parts = refl

  pub early-groups : {known : Bool} {l : Option Lease} → is_some (order_capability s b) ≡ known → order_lease s b ≡ l
      → early_checks s b ≡ ready s.now b ++ (identity_checks s b.boot_id ++ (authority_checks s known l ++ form_checks s b))
  unfolding admission ready identity_checks authority_checks form_checks
  early-groups p q = rw (p, q)

  pub late-groups : {c : Capability} {l : Lease} → order_capability s b ≡ Some c → order_lease s b ≡ Some l
      → late_checks s b ≡ sequence_checks s l ++ (time_checks s ++ state_checks s b.epoch b.flags c l)
  unfolding admission ready holds_of sequence_checks time_checks state_checks
  late-groups p q = rw (p, q)

  -- what a group of one check answers

  pub form-by : (w : Bool) → well_formed s b ≡ w → answer (form_checks s b) ≡ cond w Passed (Failed Invalid)
  unfolding form_checks first_failing
  form-by true e = rw e
  form-by false e = rw e

  pub duplicate-by : (w : Bool) → is_some (replayed s b) ≡ w
      → answer (check (not (is_some (replayed s b))) Duplicate ∷ late_checks s b) ≡ cond w (Failed Duplicate) (answer (late_checks s b))
  unfolding first_failing
  duplicate-by true e = rw e
  duplicate-by false e = rw e

pub sequence-by : (s : Submission) (l : Lease) (w : Bool) → ltb l.last_sequence s.action.sequence ≡ w
    → answer (sequence_checks s l) ≡ cond w Passed (Failed OldSequence)
unfolding sequence_checks first_failing
sequence-by s l true e = rw e
sequence-by s l false e = rw e

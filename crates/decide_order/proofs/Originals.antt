-- A rejection's `original_receipt`, from a search that is made only where the early checks pass. Assumes nothing.
use Prim.Native.Nat.{ℕ}
use mathlib.Core.Bool.{Bool, true, false, cond, not}
use mathlib.Core.List.{List, [], ◌∷◌}
use Rattle.std.specs.Prelude.{Option, Some, None}
use Rattle.std.proofs.lemmas.Option.{none-some}
use Rattle.model.proofs.Options.{some-injective}
use mathlib.Core.Path.{◌≡◌, refl, sym, ap, ◌∙◌}
use borrow.Author.Tests.{not-true}
use lib.Dec.{eqb}
use Rattle.model.specs.declared.Reason.{Reason}
use Rattle.model.specs.declared.Reason.TheVariants.{Duplicate}
use Rattle.model.specs.declared.Replay.{Replay}
use Rattle.model.specs.declared.Submission.{Submission}
use Rattle.model.specs.Reasons.{number}
use Rattle.model.proofs.Tests.{and_both}
use Rattle.rules.specs.Admission.{Check, check, first_failing, is_some, ready, replayed, admission}
use Rattle.rules.specs.Book.{Book}
use Rattle.rules.specs.Rules.{receipt_number, original}
use Rattle.rules.proofs.Checks.{is_other, others}
use Rattle.decide_ready.specs.Checks.{check_of}
use Rattle.decide_ready.specs.declared.Check.TheVariants.{Failed}
use Rattle.decide_ready.proofs.Checks.{some-failed}
use Rattle.decide_order.specs.Checks.{early_checks, late_checks}
use Rattle.decide_order.proofs.Groups.{answer, passed, failed, admission-parts, duplicate-by}

-- the reason of a list's first failing check is none that no check of it has
first-other : (cs : List Check) (reason : Reason) → others Duplicate cs ≡ true → first_failing cs ≡ Some reason → is_other Duplicate reason ≡ true
unfolding first_failing
first-other [] reason h e = absurd (none-some reason e)
first-other (c ∷ cs) reason h e =
    let k = and_both (is_other Duplicate c.reason) (others Duplicate cs) h in
    go c.holds e k.0 (first-other cs reason k.1)
  where
    go : (t : Bool) → cond t (first_failing cs) (Some c.reason) ≡ Some reason → is_other Duplicate c.reason ≡ true
        → (first_failing cs ≡ Some reason → is_other Duplicate reason ≡ true) → is_other Duplicate reason ≡ true
    go true e k rest = rest e
    go false e k rest = ap (λ x. is_other Duplicate x) (sym (some-injective _ _ e)) ∙ k

module _ (s : Submission) (b : Book) where
  early-other : others Duplicate (early_checks s b) ≡ true
  unfolding admission ready
  early-other = refl

  not-duplicate : (reason : Reason) → is_other Duplicate reason ≡ true → original reason s b ≡ 0
  unfolding original
  not-duplicate reason e = rw (not-true (eqb (number reason) (number Duplicate)) e)

  by-search : (o : Option Replay) → replayed s b ≡ o → (reason : Reason)
      → answer (check (not (is_some (replayed s b))) Duplicate ∷ late_checks s b) ≡ Failed reason → original reason s b ≡ receipt_number (replayed s b)
  unfolding original is_some receipt_number
  by-search None e reason k = rw e (nothing (eqb (number reason) (number Duplicate)))
    where
      nothing : (t : Bool) → cond {A = ℕ} t 0 0 ≡ 0
      nothing true = refl
      nothing false = refl
  by-search (Some x) e reason k =
      let same : reason ≡ Duplicate = cc (sym k ∙ duplicate-by s b true (ap is_some e)) in
      rw same

  -- where the early checks pass, it is the number that the search finds, whatever the reason; where one of them fails, it is 0
  pub original-so : (reason : Reason) (n : ℕ) → first_failing (admission s b) ≡ Some reason
      → (first_failing (early_checks s b) ≡ None → n ≡ receipt_number (replayed s b))
      → ((early : Reason) → first_failing (early_checks s b) ≡ Some early → n ≡ 0)
      → original reason s b ≡ n
  original-so reason n e found nothing = by-early (first_failing (early_checks s b)) refl
    where
      whole : answer (admission s b) ≡ Failed reason
      whole = ap check_of e

      by-early : (o : Option Reason) → first_failing (early_checks s b) ≡ o → original reason s b ≡ n
      by-early None p =
          by-search (replayed s b) refl reason (sym (ap answer (admission-parts s b) ∙ passed _ _ (sym (ap check_of p)) refl) ∙ whole) ∙ sym (found p)
      by-early (Some early) p =
          let same = some-failed _ early (sym (ap answer (admission-parts s b) ∙ failed _ _ (sym (ap check_of p)) refl)) in
          not-duplicate reason (first-other (early_checks s b) reason early-other (p ∙ sym same ∙ e)) ∙ sym (nothing early p)

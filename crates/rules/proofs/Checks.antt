-- What the checks of acquire and renew find: the reason of the first that fails, and the axis of a lease. Assumes nothing.
use Prim.Native.Nat.{ℕ}
use mathlib.Core.Bool.{Bool, true, false, cond, not, false≢true}
use mathlib.Core.List.{List, [], ◌∷◌}
use mathlib.Core.Logic.{◌≢◌}
use Rattle.std.specs.Prelude.{Option, Some, None}
use Rattle.std.proofs.lemmas.Option.{none-some}
use Rattle.model.proofs.Options.{some-injective}
use mathlib.Core.Path.{◌≡◌, refl, sym, ap, ◌∙◌, subst}
use borrow.Author.Tests.{eqb-true, eq-eqb}
use lib.Dec.{eqb}
use Rattle.model.specs.declared.Lease.{Lease}
use Rattle.model.specs.declared.Reason.{Reason}
use Rattle.model.specs.Lists.{all}
use Rattle.model.specs.Reasons.{number}
use Rattle.model.proofs.Tests.{and_both}
use Rattle.rules.specs.Book.{Book, lease_at}
use Rattle.rules.specs.Admission.{Check, first_failing, holds_of, is_held_by, axis_held}

-- ---- a reason that no check has

module _ (this : Reason) where
  abbrev pub is_other : Reason → Bool
  is_other reason = not (eqb (number reason) (number this))

  pub other : (reason : Reason) → is_other reason ≡ true → reason ≢ this
  other reason h e = false≢true (sym (ap not (eq-eqb (number reason) (number this) (ap number e))) ∙ h)

  abbrev pub others : List Check → Bool
  others cs = all (λ c. is_other c.reason) cs

  pub first-other : (cs : List Check) (reason : Reason) → others cs ≡ true → first_failing cs ≡ Some reason → reason ≢ this
  unfolding first_failing
  first-other [] reason h e = absurd (none-some reason e)
  first-other (c ∷ cs) reason h e =
      let k = and_both (is_other c.reason) (others cs) h in
      go c.holds e (other c.reason k.0) (first-other cs reason k.1)
    where
      go : (t : Bool) → cond t (first_failing cs) (Some c.reason) ≡ Some reason → c.reason ≢ this
          → (first_failing cs ≡ Some reason → reason ≢ this) → reason ≢ this
      go true e k rest = rest e
      go false e k rest = subst (λ x. x ≢ this) (some-injective _ _ e) k

-- ---- the axis of a lease

-- on it stands the lease with this id, and it is this owner's
pub record Held (owner id : ℕ) (b : Book) (axis : ℕ) : Type 0 where
  pub lease : Lease
  pub stands : lease_at b axis ≡ Some lease
  pub number : lease.id ≡ id
  pub own : lease.owner ≡ owner

pub held : (owner id : ℕ) (b : Book) (on : List ℕ) (axis : ℕ) → axis_held owner id b on ≡ Some axis → Held owner id b axis
unfolding axis_held holds_of is_held_by
held owner id b [] axis e = absurd (none-some axis e)
held owner id b (i ∷ on) axis e = go (lease_at b i) refl e (held owner id b on axis)
  where
    found : (x : Lease) → lease_at b i ≡ Some x → (t : Bool) → is_held_by owner id x ≡ t → cond t (Some i) (axis_held owner id b on) ≡ Some axis
        → (axis_held owner id b on ≡ Some axis → Held owner id b axis) → Held owner id b axis
    found x q true h e rest =
        let k = and_both (eqb x.id id) (eqb x.owner owner) h in
        record { lease = x; stands = rw (some-injective i axis e) at q; number = eqb-true _ _ k.0; own = eqb-true _ _ k.1 }
    found x q false h e rest = rest e

    go : (o : Option Lease) → lease_at b i ≡ o → cond (holds_of o (is_held_by owner id)) (Some i) (axis_held owner id b on) ≡ Some axis
        → (axis_held owner id b on ≡ Some axis → Held owner id b axis) → Held owner id b axis
    go None q e rest = rest e
    go (Some x) q e rest = found x q (is_held_by owner id x) refl e rest

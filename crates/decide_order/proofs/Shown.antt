-- What an order's decisions are shown is what the rules read in the book. Assumes nothing.
use Prim.Native.Nat.{ℕ, ◌≤◌}
use mathlib.Core.Bool.{Bool, true, false, cond, false≢true}
use mathlib.Core.List.{List, [], ◌∷◌, ◌++◌}
use mathlib.Core.Logic.{inl, inr}
use Rattle.std.specs.Prelude.{Option, Some, None}
use Rattle.std.proofs.lemmas.Option.{none-some}
use Rattle.model.proofs.Options.{some-injective}
use mathlib.Core.Path.{◌≡◌, refl, sym, ap, ◌∙◌, subst}
use borrow.Author.Tests.{eqb-true}
use lib.Dec.{eqb}
use Rattle.model.specs.Soundness.{sound}
use Rattle.model.specs.declared.Capability.{Capability}
use Rattle.model.specs.declared.Lease.{Lease}
use Rattle.model.specs.declared.LeaseSlot.{LeaseSlot}
use Rattle.model.specs.declared.Presence.{Presence}
use Rattle.model.specs.declared.Presence.TheVariants.{Absent, Present}
use Rattle.model.specs.declared.Submission.{Submission}
use Rattle.model.proofs.Meaning.{sound-id, sound-axis}
use Rattle.rules.specs.Admission.{first_failing, holds_of, is_some, with_id, ready, order_capability, lease_for, order_lease, authorizes, admission}
use Rattle.rules.specs.Lists.{Mem}
use Rattle.rules.proofs.Admission.{none-fails}
use Rattle.state.specs.State.{lease_if, lease_in, Tables, Asked, Hand, state, book_of, Sound}
use Rattle.state.specs.declared.Fixed.{Fixed}
use Rattle.state.specs.declared.Numbers.{Numbers}
use Rattle.decide_order.specs.Checks.{early_checks, late_checks, identity_checks, authority_checks, form_checks, sequence_checks, time_checks, state_checks}
use Rattle.decide_order.specs.Orders.{ShowsOrder}
use Rattle.decide_order.proofs.Groups.{answer, early-groups, late-groups}

-- a record that is found among sound ones has an axis, and its id a bit
pub found-sound : (cs : List Capability) (id : ℕ) (c : Capability) → ((d : Capability) → Mem d cs → sound d ≡ true) → with_id id cs ≡ Some c
    → (c.resource ≤ 7) × (id ≤ 63)
unfolding with_id
found-sound [] id c each e = absurd (none-some _ e)
found-sound (d ∷ cs) id c each e = by-id (eqb d.id id) refl (found-sound cs id c (λ x m. each x (inr m))) e
  where
    by-id : (t : Bool) → eqb d.id id ≡ t → (with_id id cs ≡ Some c → (c.resource ≤ 7) × (id ≤ 63))
        → cond t (Some d) (with_id id cs) ≡ Some c → (c.resource ≤ 7) × (id ≤ 63)
    by-id true q rest k =
        let h = each d (inl refl) in
        (rw (← some-injective _ _ k) (sound-axis d h), rw (← eqb-true d.id id q) (sound-id d h).1)
    by-id false q rest k = rest k

-- an id that the records have is below 64
pub id-low : {id : ℕ} {known : Bool} {c : Capability} {slot : LeaseSlot} {f : Fixed} {n : Numbers} {t : Tables} {q : Asked} {h : Hand}
    → Sound (state f n t q h) → ShowsOrder id known c slot t → known ≡ true → id ≤ 63
id-low {id} {known} {c} {slot} {f} {n} {t} sound k e =
    (found-sound t.capabilities id c sound.checked.each (k.found ∙ ap (λ x. cond x (Some c) None) e)).1

-- where a lease passes the check of its authority it stands
standing : (s : Submission) (o : Option Lease) (p : Presence) (l : Lease) → holds_of o (authorizes s) ≡ true → o ≡ lease_if p l → p ≡ Present
unfolding holds_of
standing s o Absent l h q = absurd (false≢true (rw q at h))
standing s o Present l h q = refl

module _ (s : Submission) (f : Fixed) (n : Numbers) {c : Capability} {slot : LeaseSlot} (t : Tables) where
  -- there is a record, or none
  is_known : (known : Bool) → ShowsOrder s.action.capability known c slot t → is_some (order_capability s (book_of f n t)) ≡ known
  unfolding order_capability book_of is_some
  is_known false k = rw k.found
  is_known true k = rw k.found

  lease-shown : (known : Bool) → ShowsOrder s.action.capability known c slot t
      → order_lease s (book_of f n t) ≡ cond known (lease_in slot) None
  unfolding order_lease lease_for order_capability book_of
  lease-shown false k = rw k.found
  lease-shown true k = rw k.found (sym (k.shown refl))

  pub early-shown : {known : Bool} → ShowsOrder s.action.capability known c slot t
      → answer (early_checks s (book_of f n t))
      ≡ answer
      (ready s.now (book_of f n t)
      ++ (identity_checks s f.boot_id ++ (authority_checks s known (cond known (lease_in slot) None) ++ form_checks s (book_of f n t))))
  unfolding book_of
  early-shown k = ap answer (early-groups s (book_of f n t) (is_known _ k) (lease-shown _ k))

  -- an order whose record and lease both stand
  module _ (k : ShowsOrder s.action.capability true c slot t) (p : slot.presence ≡ Present) where
    pub record-shown : order_capability s (book_of f n t) ≡ Some c
    unfolding order_capability book_of
    record-shown = k.found

    pub lease-present : order_lease s (book_of f n t) ≡ Some slot.lease
    lease-present = lease-shown true k ∙ ap (λ x. lease_if x slot.lease) p

    pub late-shown : answer (late_checks s (book_of f n t))
        ≡ answer (sequence_checks s slot.lease ++ (time_checks s ++ state_checks s n.epoch n.flags c slot.lease))
    unfolding book_of
    late-shown = ap answer (late-groups s (book_of f n t) record-shown lease-present)

  -- as the checks of them say
  both-stand : {known : Bool} → ShowsOrder s.action.capability known c slot t
      → is_some (order_capability s (book_of f n t)) ≡ true → holds_of (order_lease s (book_of f n t)) (authorizes s) ≡ true
      → ShowsOrder s.action.capability true c slot t × (slot.presence ≡ Present)
  both-stand k e h =
      let there = sym (is_known _ k) ∙ e in
      let k' = subst (λ x. ShowsOrder s.action.capability x c slot t) there k in
      (k', standing s _ _ slot.lease h (lease-shown true k'))

  module _ {known : Bool} (k : ShowsOrder s.action.capability known c slot t) where
    pub early-stand : first_failing (early_checks s (book_of f n t)) ≡ None
        → ShowsOrder s.action.capability true c slot t × (slot.presence ≡ Present)
    unfolding admission ready
    early-stand e =
        let all = none-fails (early_checks s (book_of f n t)) e in
        both-stand k all.1.1.1.1.1.1.0 all.1.1.1.1.1.1.1.0

    pub admitted-stand : first_failing (admission s (book_of f n t)) ≡ None
        → ShowsOrder s.action.capability true c slot t × (slot.presence ≡ Present)
    unfolding admission ready
    admitted-stand e =
        let all = none-fails (admission s (book_of f n t)) e in
        both-stand k all.1.1.1.1.1.1.0 all.1.1.1.1.1.1.1.0

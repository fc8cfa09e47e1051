-- The receipts of a failed order, of one that is complete and of a fallback, stored. Assumes nothing.
use Prim.Native.Nat.{ℕ, zero, suc, ◌≤◌, min}
use mathlib.Core.Bool.{Bool, true, cond}
use mathlib.Core.List.{List, [], ◌∷◌}
use mathlib.Core.Logic.{◌⊎◌, inl, inr}
use Rattle.std.specs.Prelude.{Option, Some, None}
use Rattle.std.proofs.lemmas.Option.{none-some}
use Rattle.model.proofs.Options.{some-injective}
use mathlib.Core.Path.{◌≡◌, refl, sym, ap, ◌∙◌}
use native.Mathlib.Omega.{arith}
use lib.ListN.{get_or, set, length-set}
use Rattle.model.specs.declared.Active.{Active}
use Rattle.model.specs.declared.Capability.{Capability}
use Rattle.model.specs.declared.Decision.TheVariants as Decision
use Rattle.model.specs.declared.ExecutionClass.{ExecutionClass}
use Rattle.model.specs.declared.ExecutionClass.TheVariants.{Stream, Discrete, Control}
use Rattle.model.specs.declared.Lease.{Lease}
use Rattle.model.specs.declared.Reason.{Reason}
use Rattle.model.specs.declared.Receipt.{Receipt}
use Rattle.model.specs.declared.Submission.{Submission}
use Rattle.rules.specs.Admission.{is_some}
use Rattle.rules.specs.Protocol.{proceed}
use Rattle.rules.specs.Receipts.{top, kept, numbered, event, Progress, order_receipt}
use Rattle.rules.specs.Rules.{record_receipt, active_until, complete, fail}
use Rattle.rules.specs.With.{with_active, with_invalid_count, with_receipts, with_next_receipt}
use Rattle.state.specs.declared.AfterRecord.TheVariants as AfterRecord
use Rattle.state.specs.declared.Answer.TheVariants.{Item}
use Rattle.state.specs.declared.Falling.{Falling}
use Rattle.state.specs.declared.Fixed.{Fixed}
use Rattle.state.specs.declared.Numbers.{Numbers}
use Rattle.state.specs.declared.Revoked.{Revoked}
use Rattle.state.specs.State.{active_in, Tables, Asked, Hand, state, book_of, after_fell_back, after_record_of, carries, Sized, Counted, Sound, Moves}
use Rattle.state.specs.Stores.{recorded}
use Rattle.state.proofs.Records.{records, records-sound}
use Rattle.decide_reply.specs.declared.Completing.{Completing}
use Rattle.decide_reply.specs.Replies.{hand_at, told, completing, completed}
use Rattle.decide_reply.proofs.Replies.{hand-sound}

-- one active order stored ----------------------------------------------------------------------------------------------------

-- what stands in a slot after a store is what was stored there, or stood there before
stored : {A : Type 0} (l : List (Option A)) (i j : ℕ) (o : Option A) (x : A) → get_or (set l i o) j None ≡ Some x
    → ((j ≡ i) × (o ≡ Some x)) ⊎ (get_or l j None ≡ Some x)
stored [] i j o x e = inr e
stored (a ∷ l) zero zero o x e = inl (refl, e)
stored (a ∷ l) zero (suc j) o x e = inr e
stored (a ∷ l) (suc i) zero o x e = inr e
stored (a ∷ l) (suc i) (suc j) o x e = next (stored l i j o x e)
  where
    next : ((j ≡ i) × (o ≡ Some x)) ⊎ (get_or l j None ≡ Some x) → ((suc j ≡ suc i) × (o ≡ Some x)) ⊎ (get_or l j None ≡ Some x)
    next (inl p) = inl (ap suc p.0, p.1)
    next (inr p) = inr p

module _ {ls : List (Option Lease)} {os : List (Option Active)} (i : ℕ) (o : Option Active) where
  -- on an axis whose lease stands
  stored-sized : Sized ls os → is_some (get_or ls i None) ≡ true → Sized ls (set os i o)
  stored-sized s leased =
      record {
        leases = s.leases;
        active = length-set os i o ∙ s.active;
        under = λ axis a e. by axis a (stored os i axis o a e);
      }
    where
      by : (axis : ℕ) (a : Active) → ((axis ≡ i) × (o ≡ Some a)) ⊎ (get_or os axis None ≡ Some a) → is_some (get_or ls axis None) ≡ true
      by axis a (inl p) = rw p.0 leased
      by axis a (inr p) = s.under axis a p

  -- none ends before a time that is neither after the one so far nor after its end
  stored-counted : {n soonest : ℕ} (sooner : ℕ) → Counted n soonest ls os → sooner ≤ soonest
      → ((a : Active) → o ≡ Some a → sooner ≤ a.expires_at) → Counted n sooner ls (set os i o)
  stored-counted {n} {soonest} sooner c le ends =
      record {
        held = c.held;
        leases = λ axis l e. let k = c.leases axis l e in omega arith;
        active = λ axis a e. by axis a (stored os i axis o a e);
      }
    where
      by : (axis : ℕ) (a : Active) → ((axis ≡ i) × (o ≡ Some a)) ⊎ (get_or os axis None ≡ Some a) → sooner ≤ a.expires_at
      by axis a (inl p) = ends a p.1
      by axis a (inr p) = let k = c.active axis a p in omega arith

-- an order ends at its end or never
until : (c : Capability) (class : ExecutionClass) (end sooner : ℕ) (a : Active) → sooner ≤ end → sooner ≤ top → active_until c class end ≡ Some a
    → sooner ≤ a.expires_at
unfolding active_until
until c Stream end sooner a h k e = rw (some-injective _ _ (sym e)) h
until c Discrete end sooner a h k e = rw (some-injective _ _ (sym e)) k
until c Control end sooner a h k e = absurd (none-some _ e)

-- receipts -------------------------------------------------------------------------------------------------------------------

module _ (f : Fixed) (n : Numbers) (t : Tables) (q : Asked) (h : Hand) (s : Sound (state f n t q h)) where
  pub fails : (c : Capability) (reason : Reason) (p : Progress) (order : Submission) {r : Receipt} → q.submission ≡ order
      → r ≡ numbered n.next_receipt (order_receipt order (Some c) Decision.Failed reason 0 p (book_of f n t))
      → Moves (recorded r AfterRecord.Failed (state f n t q h)) Item (proceed (fail c reason p order (book_of f n t)))
  unfolding fail record_receipt after_record_of order_receipt numbered
  fails c reason p order {r} same e =
      record {
        reaction = rw e (records (state f n t q h) (order_receipt order (Some c) Decision.Failed reason 0 p (book_of f n t)) AfterRecord.Failed ∙ rw same);
        sound = records-sound (state f n t q h) r AfterRecord.Failed s;
      }

  pub completes : (c : Capability) (end : ℕ) (p : Progress) (order : Submission) (d : Completing) → h.order.capability ≡ c
      → carries h.waiting.awaited ≡ true
      → d.soonest ≤ top
      → d.soonest ≡ min n.soonest end
      → active_in d.active ≡ active_until c c.class end
      → d.receipt ≡ numbered n.next_receipt (order_receipt order (Some c) Decision.Executed Reason.Ok 0 p (book_of f n t))
      → Moves (completed d c.resource (state f n t q h)) Item (proceed (complete c end p order (book_of f n t)))
  unfolding completed complete book_of with_active with_invalid_count after_record_of
  completes c end p order d same carried fits soon active e =
      let leased = rw same at (s.order.leased carried) in
      let u =
      state f (completing d.soonest n)
      (record {
        capabilities = t.capabilities;
        leases = t.leases;
        active = set t.active c.resource (active_in d.active);
        replay = t.replay;
        receipts = t.receipts;
      })
      q h in
      let sound : Sound u =
      record {
        checked = s.checked;
        sized = stored-sized c.resource (active_in d.active) s.sized leased;
        counted =
            stored-counted c.resource (active_in d.active) d.soonest s.counted (rw soon (omega arith))
            (λ a k. until c c.class end d.soonest a (rw soon (omega arith)) fits (sym active ∙ k));
        falling = s.falling;
        order = s.order;
      } in
      record {
        reaction = rw e (records u (order_receipt order (Some c) Decision.Executed Reason.Ok 0 p (book_of f n t)) AfterRecord.Executed ∙ rw active);
        sound = records-sound u d.receipt AfterRecord.Executed sound;
      }

  pub tells : (g : Falling) (v : Revoked) (ok : Bool) (reason : Reason) {r : Receipt} → h.falling ≡ g
      → reason ≡ cond ok g.reason Reason.Driver
      → r ≡ numbered n.next_receipt (event g.axis v.lease_id v.owner Decision.Fallback reason g.time (book_of f n t))
      → Moves (told r ok (state f n t q h)) Item (proceed (after_fell_back g v q ok (book_of f n t)))
  unfolding after_fell_back after_record_of record_receipt kept with_receipts with_next_receipt book_of
  tells g v ok reason {r} same why e =
      let u =
      state f n t q
      (hand_at h.waiting h.order (record { lease_id = h.revoked.lease_id; owner = h.revoked.owner; ok = ok }) h) in
      let event = event g.axis v.lease_id v.owner Decision.Fallback reason g.time (book_of f n t) in
      record {
        reaction = rw e (records u event AfterRecord.Fallback ∙ rw (same, why));
        sound = records-sound u r AfterRecord.Fallback (hand-sound u.hand s s.falling s.order);
      }

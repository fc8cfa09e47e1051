-- A lease stored on its axis, by a grant or a renewal: what is sound stays so, and its receipt is handed out. Assumes nothing.
use Prim.Native.Nat.{ℕ, zero, suc, ◌+◌, ◌<◌, ◌≤◌, min}
use mathlib.Core.Bool.{true, not}
use mathlib.Core.List.{List, [], ◌∷◌}
use mathlib.Core.Logic.{◌⊎◌, inl, inr, ⊎_elim}
use Rattle.std.specs.Prelude.{Option, Some, None}
use mathlib.Core.Path.{◌≡◌, refl, sym, ap, subst, ◌∙◌}
use borrow.Author.Tests.{ne_eqb}
use native.Mathlib.Omega.{arith}
use lib.ListN.{length, get_or, set, length-set}
use lib.Seq.{get_or-set_same}
use Rattle.model.specs.declared.Active.{Active}
use Rattle.model.specs.declared.Decision.TheVariants.{Control}
use Rattle.model.specs.declared.Lease.{Lease}
use Rattle.model.specs.declared.LeaseRequest.{LeaseRequest}
use Rattle.model.specs.declared.LeaseSlot.{LeaseSlot}
use Rattle.model.specs.declared.Reason.{Reason}
use Rattle.model.specs.declared.Reason.TheVariants.{LeaseGranted, LeaseRenewed}
use Rattle.model.specs.declared.Receipt.{Receipt}
use Rattle.model.specs.declared.Renewal.{Renewal}
use Rattle.model.specs.declared.RuntimeState.{RuntimeState}
use Rattle.model.specs.Lists.{any}
use Rattle.rules.specs.Admission.{is_some}
use Rattle.rules.specs.Book.{Book}
use Rattle.rules.specs.Protocol.{proceed}
use Rattle.rules.specs.Receipts.{bump, kept, numbered, event}
use Rattle.rules.specs.Rules.{record_receipt, refreshed, refresh_state, bump_epoch, new_lease, granted as granted_book, leased, grant, extended, extend, renewed}
use Rattle.rules.specs.With.{with_receipts, with_next_receipt, with_leases, with_next_lease, with_epoch, with_state}
use Rattle.state.specs.State.{lease_in, lease_or, Tables, Asked, Hand, state, book_of, after_record_of, reaction_of, count_of, Sized, Counted, Sound, Moves}
use Rattle.state.specs.Stores.{recorded}
use Rattle.state.specs.declared.AfterRecord.TheVariants as AfterRecord
use Rattle.state.specs.declared.Answer.TheVariants as Answer
use Rattle.state.specs.declared.Fixed.{Fixed}
use Rattle.state.specs.declared.Numbers.{Numbers}
use Rattle.state.proofs.Courses.{bumped}
use Rattle.state.proofs.Records.{records, records-sound}
use Rattle.state.proofs.Tables.{held_any, one, count_set}
use Rattle.decide_lease.specs.Leases.{ShowsHeld, leased_at, answering, numbers_with, granted, lengthened_to, lengthened}
use Rattle.decide_lease.specs.declared.Granting.{Granting}
use Rattle.decide_lease.specs.declared.Renewing.{Renewing}
use Rattle.decide_lease.proofs.Held.{held-at, lease-there, lease-held}

-- a slot stored to ---------------------------------------------------------------------------------------------------------

count_fits : (ls : List (Option Lease)) → count_of ls ≤ length ls
unfolding count_of
count_fits [] = omega arith
count_fits (None ∷ ls) = let k = count_fits ls in omega arith
count_fits (Some l ∷ ls) = let k = count_fits ls in omega arith

-- a lease that stands is the one stored, or stood before
stored : (ls : List (Option Lease)) (i : ℕ) (x : Lease) (j : ℕ) (l : Lease) → get_or (set ls i (Some x)) j None ≡ Some l
    → (x ≡ l) ⊎ (get_or ls j None ≡ Some l)
stored [] i x j l e = inr e
stored (o ∷ ls) zero x zero l e = inl cc
stored (o ∷ ls) zero x (suc j) l e = inr e
stored (o ∷ ls) (suc i) x zero l e = inr e
stored (o ∷ ls) (suc i) x (suc j) l e = stored ls i x j l e

-- where one stood one stands
stands : (ls : List (Option Lease)) (i : ℕ) (x : Lease) (j : ℕ) → is_some (get_or ls j None) ≡ true → is_some (get_or (set ls i (Some x)) j None) ≡ true
unfolding is_some
stands [] i x j e = e
stands (o ∷ ls) zero x zero e = refl
stands (o ∷ ls) zero x (suc j) e = e
stands (o ∷ ls) (suc i) x zero e = e
stands (o ∷ ls) (suc i) x (suc j) e = stands ls i x j e

module _ (ls : List (Option Lease)) (i : ℕ) (x : Lease) (h : i < length ls) where
  count-more : get_or ls i None ≡ None → count_of (set ls i (Some x)) ≡ count_of ls + 1
  unfolding one
  count-more e = let c = rw e at (count_set ls i (Some x) h) in omega arith

  count_same : (old : Lease) → get_or ls i None ≡ Some old → count_of (set ls i (Some x)) ≡ count_of ls
  unfolding one
  count_same old e = let c = rw e at (count_set ls i (Some x) h) in omega arith

-- what is sound ------------------------------------------------------------------------------------------------------------

module _ {ls : List (Option Lease)} {os : List (Option Active)} (s : Sized ls os) (i : ℕ) (x : Lease) where
  leased-sized : Sized (set ls i (Some x)) os
  leased-sized =
      record {
        leases = length-set ls i (Some x) ∙ s.leases;
        active = s.active;
        under = λ axis a e. stands ls i x axis (s.under axis a e);
      }

  leased-counted : {n soonest : ℕ} → Counted n soonest ls os → (held sooner : ℕ) → held ≡ count_of (set ls i (Some x)) → sooner ≤ soonest
      → sooner ≤ x.expires_at → Counted held sooner (set ls i (Some x)) os
  leased-counted c held sooner e before within =
      record {
        held = e;
        leases = λ axis l k.
            ⊎_elim (λ same. rw same at within) (λ old. let o = c.leases axis l old in omega arith) (stored ls i x axis l k);
        active = λ axis a k. let o = c.active axis a k in omega arith;
      }

module _ (f : Fixed) (n : Numbers) (t : Tables) (q : Asked) (h : Hand) (s : Sound (state f n t q h)) (axis : ℕ) (x : Lease) where
  leased-sound : (m : Numbers) → m.held ≡ count_of (set t.leases axis (Some x)) → m.soonest ≤ n.soonest → m.soonest ≤ x.expires_at
      → Sound (state f m (leased_at axis (Some x) t) q (answering axis h))
  leased-sound m held before within =
      record {
        checked = s.checked;
        sized = leased-sized s.sized axis x;
        counted = leased-counted s.sized axis x s.counted m.held m.soonest held before within;
        falling = s.falling;
        order = record { axis = s.order.axis; leased = λ e. stands t.leases axis x h.order.capability.resource (s.order.leased e) };
      }

  -- the receipt of a lease that was stored, and the lease as the answer
  leased-so : (m : Numbers) (reason : Reason) (now : ℕ) (r : Receipt) → axis < 8
      → r ≡ numbered m.next_receipt (event axis x.id x.owner Control reason now (book_of f m t))
      → reaction_of Answer.Item (recorded r AfterRecord.Lease (state f m (leased_at axis (Some x) t) q (answering axis h)))
      ≡ proceed (leased axis x reason now (book_of f m (leased_at axis (Some x) t)))
  unfolding leased record_receipt kept with_receipts with_next_receipt after_record_of lease_or event book_of
  leased-so m reason now r low e =
      let there = get_or-set_same t.leases axis (Some x) None (rw s.sized.leases low) in
      rw e
      (records (state f m (leased_at axis (Some x) t) q (answering axis h)) (event axis x.id x.owner Control reason now (book_of f m t)) AfterRecord.Lease
      ∙ rw there)

-- a grant ------------------------------------------------------------------------------------------------------------------

some-leased : (ls : List (Option Lease)) (i : ℕ) (x : Lease) → i < length ls → get_or ls i None ≡ None → any is_some (set ls i (Some x)) ≡ true
some-leased ls i x h e =
    let c = count-more ls i x h e in
    sym (held_any (set ls i (Some x))) ∙ ap not (ne_eqb (count_of (set ls i (Some x))) 0 (λ z. absurd (omega arith)))

grant-book : (b : Book) (r : LeaseRequest) (now next epoch : ℕ) (st : RuntimeState) → next ≡ bump b.next_lease → epoch ≡ bump b.epoch
    → st ≡ refreshed true b.state → any is_some (set b.leases r.resource (Some (new_lease r b.next_lease now))) ≡ true
    → leased r.resource (new_lease r b.next_lease now) LeaseGranted now
    (with_state st (with_epoch epoch (with_leases (set b.leases r.resource (Some (new_lease r b.next_lease now))) (with_next_lease next b))))
    ≡ grant None r now b
unfolding grant granted_book refresh_state bump_epoch with_leases with_next_lease with_epoch with_state new_lease
grant-book b r now next epoch st p e u k = rw (p, e, u, k)

pub grants : (f : Fixed) (n : Numbers) (r : LeaseRequest) (now : ℕ) (g : Granting)
    → lease_in g.lease ≡ Some (new_lease r n.next_lease now)
    → g.next_lease ≡ bump n.next_lease
    → g.epoch ≡ bump n.epoch
    → g.mode.state ≡ refreshed true n.mode.state
    → (n.held < 255 → g.held ≡ n.held + 1)
    → g.soonest ≡ min n.soonest (now + r.duration_ms)
    → ((t : Tables)
    → g.receipt
    ≡ numbered n.next_receipt (event r.resource n.next_lease r.owner Control LeaseGranted now (book_of f (bumped g.epoch n) t)))
    → r.resource < 8 → (t : Tables) (q : Asked) (h : Hand) → Sound (state f n t q h) → get_or t.leases r.resource None ≡ None
    → Moves (granted g r.resource (state f n t q h)) Answer.Item (proceed (grant None r now (book_of f n t)))
unfolding granted new_lease event book_of with_leases with_next_lease with_epoch with_state
grants f n r now g lease next epoch mode held soonest receipt low t q h s free =
    let axis = r.resource in
    let x = new_lease r n.next_lease now in
    let m = numbers_with g.next_lease g.epoch g.mode g.held g.soonest n in
    let inside : axis < length t.leases = rw s.sized.leases low in
    let more = count-more t.leases axis x inside free in
    let few = count_fits t.leases in
    let all = s.sized.leases in
    let counted = s.counted.held in
    let raised = held (omega arith) in
    subst
    (λ (o : Option Lease).
    Moves (recorded g.receipt AfterRecord.Lease (state f m (leased_at axis o t) q (answering axis h))) Answer.Item (proceed (grant None r now (book_of f n t))))
    (sym lease)
    (record {
      reaction =
          leased-so f n t q h s axis x m LeaseGranted now g.receipt low (receipt t)
          ∙ ap proceed (grant-book (book_of f n t) r now _ _ _ next epoch mode (some-leased t.leases axis x inside free));
      sound =
          records-sound _ g.receipt AfterRecord.Lease
          (leased-sound f n t q h s axis x m (omega arith) (omega arith) (omega arith));
    })

-- a renewal ----------------------------------------------------------------------------------------------------------------

pub renews : (f : Fixed) (n : Numbers) (axis : ℕ) (slot : LeaseSlot) (r : Renewal) (g : Renewing)
    → g.expires_at ≡ r.now + r.duration_ms
    → g.soonest ≡ min n.soonest (r.now + r.duration_ms)
    → ((t : Tables)
    → g.receipt
    ≡ numbered n.next_receipt (event axis slot.lease.id slot.lease.owner Control LeaseRenewed r.now (book_of f n t)))
    → axis < 8 → (t : Tables) (q : Asked) (h : Hand) → Sound (state f n t q h) → ShowsHeld r.owner r.lease_id axis slot t
    → Moves (lengthened g axis r.renewal (state f n t q h)) Answer.Item (proceed (renewed None r (book_of f n t)))
unfolding lengthened lengthened_to extended renewed extend book_of with_leases event
renews f n axis slot r g end soonest receipt low t q h s shown =
    let x = extended r slot.lease in
    let m = numbers_with n.next_lease n.epoch n.mode n.held g.soonest n in
    let there = lease-there f n shown low in
    let inside : axis < length t.leases = rw s.sized.leases low in
    let same = count_same t.leases axis x inside slot.lease there in
    let counted = s.counted.held in
    let lease : lengthened_to g.expires_at r.renewal (get_or t.leases axis None) ≡ Some x = rw (there, end) in
    let rule : leased axis x LeaseRenewed r.now (book_of f m (leased_at axis (Some x) t)) ≡ renewed None r (book_of f n t) =
    rw (held-at r.owner r.lease_id (book_of f n t) axis shown.first low, lease-held f n shown low) in
    subst
    (λ (o : Option Lease).
    Moves (recorded g.receipt AfterRecord.Lease (state f m (leased_at axis o t) q (answering axis h))) Answer.Item (proceed (renewed None r (book_of f n t))))
    (sym lease)
    (record {
      reaction = leased-so f n t q h s axis x m LeaseRenewed r.now g.receipt low (receipt t) ∙ ap proceed rule;
      sound =
          records-sound _ g.receipt AfterRecord.Lease
          (leased-sound f n t q h s axis x m (omega arith) (omega arith) (omega arith));
    })

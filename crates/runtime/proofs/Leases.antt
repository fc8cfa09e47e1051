-- What a grant and a renewal leave in a runtime, and what their checks leave where they pass. Assumes nothing.
use Prim.Native.Nat.{ℕ, zero, suc, ◌+◌, ◌<◌, ◌≤◌}
use mathlib.Core.Bool.{true, false, false≢true}
use mathlib.Core.List.{List, [], ◌∷◌, map}
use mathlib.Core.Logic.{⊎_elim}
use Rattle.std.specs.Prelude.{Option, Some, None}
use mathlib.Core.Path.{◌≡◌, refl, sym, ap, ◌∙◌, subst}
use borrow.Author.Tests.{leb-true, lt-ltb, le-ltb}
use native.Mathlib.Omega.{arith}
use lib.ListN.{length, get_or, set, take}
use lib.Seq.{set-set, get_or-set_same}
use Rattle.model.specs.declared.Lease.{Lease}
use Rattle.model.specs.declared.LeaseSlot.{LeaseSlot}
use Rattle.model.specs.declared.Presence.{Presence}
use Rattle.model.specs.declared.Presence.TheVariants.{Absent, Present}
use Rattle.model.specs.declared.Renewal.{Renewal}
use Rattle.model.specs.Records.{no_lease}
use Rattle.model.proofs.Tests.{and_both}
use Rattle.receipts.proofs.Circles.{lt-or-ge}
use Rattle.rules.specs.Admission.{first_failing, ready, valid_request, is_free, is_some, acquire_checks, renew_checks}
use Rattle.rules.specs.Book.{Book}
use Rattle.rules.specs.Protocol.{proceed}
use Rattle.rules.specs.Receipts.{top, event, numbered, rejected, is_rejected}
use Rattle.rules.specs.Rules.{record_receipt, leased, grant, extend, renewed}
use Rattle.rules.proofs.Admission.{none-fails}
use Rattle.state.specs.Axes.{first_held}
use Rattle.state.specs.State.{lease_if, lease_in, book_of, Sound, Moves}
use Rattle.state.specs.declared.AfterRecord.TheVariants as AfterRecord
use Rattle.state.specs.declared.Answer.TheVariants as Answer
use Rattle.decide_lease.specs.Leases.{ShowsHeld, numbers_with, granted, lengthened_to, lengthened}
use Rattle.decide_lease.specs.declared.Granting.{Granting}
use Rattle.decide_lease.specs.declared.Renewing.{Renewing}
use Rattle.decide_lease.proofs.Axes.{unused-past}
use Rattle.decide_lease.proofs.Held.{none-held}
use Rattle.runtime.specs.declared.Runtime.{Runtime}
use Rattle.runtime.specs.Kept.{filled_in}
use Rattle.runtime.specs.Promises.{Kept, Good, MovesIn, PlacesIn, spare_or}
use Rattle.runtime.specs.Runtimes.{tables_in, state_in, book_on}
use Rattle.runtime.proofs.Cells.{set_any}
use Rattle.runtime.proofs.Onto.{kind_of, kind_in, kind_at, recorded-in, altered, kept-lease}
use Rattle.runtime.proofs.Slots.{shown-set, shown-at}

-- what is looked up -----------------------------------------------------------------------------------------------------------

past : {A : Type 0} (l : List (Option A)) (i : ℕ) → length l ≤ i → get_or l i None ≡ None
past [] i h = refl
past (a ∷ l) zero h = absurd (omega (arith, h))
past (a ∷ l) (suc i) h = past l i (omega (arith, h))

module _ (h : Runtime) (g : Good h) (axis : ℕ) where
  abbrev Shows : ℕ → Type 0
  Shows at = lease_in (get_or h.leases at no_lease) ≡ get_or (tables_in h).leases axis None

  low : axis < 8 → Shows axis
  low b = sym (shown-at lease_in no_lease 8 h.leases axis b (rw g.kept.sized.leases (omega (arith, b))))

  high : 8 ≤ axis → Shows 8
  high b = g.kept.sized.lease ∙ sym (past (tables_in h).leases axis (rw g.sound.sized.leases b))

  -- the lease of any axis stands in its slot, or in the spare one
  pub spare-shown : Shows (spare_or axis)
  spare-shown =
      ⊎_elim (λ (b : axis < 8). rw (lt-ltb axis 8 b) (low b)) (λ (b : 8 ≤ axis). rw (le-ltb axis 8 b) (high b)) (lt-or-ge axis 8)

  pub axis-shown : axis < 9 → Shows axis
  axis-shown b =
      ⊎_elim low (λ (c : 8 ≤ axis). let e : axis ≡ 8 = omega (arith, b, c) in subst (λ (at : ℕ). Shows at) (sym e) (high c)) (lt-or-ge axis 8)

-- a grant ---------------------------------------------------------------------------------------------------------------------

free : (o : Option Lease) → is_free o ≡ true → o ≡ None
unfolding is_free
free None e = refl
free (Some l) e = absurd (false≢true e)

module _ (h : Runtime) (time : ℕ) (e : first_failing (acquire_checks h.request time (book_on h)) ≡ None) where
  pub request-axis : Sound (state_in h) → h.request.resource < 8
  unfolding acquire_checks ready valid_request book_of
  request-axis s =
      let used = (and_both _ _ (none-fails (acquire_checks h.request time (book_on h)) e).1.1.1.1.0).0 in
      ⊎_elim (λ (b : h.request.resource < 8). b)
      (λ (b : 8 ≤ h.request.resource). absurd (false≢true (sym (unused-past h.request.resource (tables_in h).capabilities s.checked.each b) ∙ used)))
      (lt-or-ge h.request.resource 8)

  pub request-fits : time + h.request.duration_ms ≤ top
  unfolding acquire_checks ready
  request-fits = leb-true _ _ (none-fails (acquire_checks h.request time (book_on h)) e).1.1.1.1.1.1.1.0

  pub request-free : get_or (tables_in h).leases h.request.resource None ≡ None
  unfolding acquire_checks ready book_of
  request-free = free _ (none-fails (acquire_checks h.request time (book_on h)) e).1.1.1.1.1.1.0

abbrev granting : Granting → ℕ → Runtime → Runtime
granting g i h =
    altered (numbers_with g.next_lease g.epoch g.mode g.held g.soonest h.numbers) i h.revoked (set h.leases i g.lease)
    h.active h

pub granting-kept : (h : Runtime) (g : Granting) (i : ℕ) → Kept h → i < 8 → Kept (granting g i h)
granting-kept h g i k b =
    kept-lease h k (numbers_with g.next_lease g.epoch g.mode g.held g.soonest h.numbers) i h.revoked i g.lease b

pub grants : (h : Runtime) (time : ℕ) (g : Granting) (z : Runtime) (slot : ℕ) → Good h → h.request.resource < 8
    → PlacesIn false AfterRecord.Lease (granting g h.request.resource h) z slot
    → Moves (granted g h.request.resource (state_in h)) Answer.Item (proceed (grant None h.request time (book_on h)))
    → MovesIn (filled_in slot g.receipt z) Answer.Item (proceed (grant None h.request time (book_on h)))
unfolding granted grant leased proceed record_receipt event numbered rejected is_rejected kind_in kind_at
grants h time g z slot k b p v =
    let i = h.request.resource in
    recorded-in (granting g i h) (granting-kept h g i k.kept b) k.started g.receipt false AfterRecord.Lease z slot p _ refl
    (rw (shown-set lease_in 8 h.leases i g.lease b) v)

-- a renewal -------------------------------------------------------------------------------------------------------------------

abbrev pub until : ℕ → LeaseSlot → LeaseSlot
until end s =
    record {
      presence = s.presence;
      lease =
          record {
            id = s.lease.id;
            owner = s.lease.owner;
            resource = s.lease.resource;
            capabilities = s.lease.capabilities;
            expires_at = end;
            limits = s.lease.limits;
            last_sequence = s.lease.last_sequence;
            last_renewal = s.lease.last_renewal;
          };
    }

abbrev pub renewed_as : ℕ → LeaseSlot → LeaseSlot
renewed_as renewal s =
    record {
      presence = s.presence;
      lease =
          record {
            id = s.lease.id;
            owner = s.lease.owner;
            resource = s.lease.resource;
            capabilities = s.lease.capabilities;
            expires_at = s.lease.expires_at;
            limits = s.lease.limits;
            last_sequence = s.lease.last_sequence;
            last_renewal = renewal;
          };
    }

-- stored one after the other
abbrev pub twice : ℕ → ℕ → ℕ → List LeaseSlot → List LeaseSlot
twice end renewal i ls =
    set (set ls i (until end (get_or ls i no_lease))) i (renewed_as renewal (get_or (set ls i (until end (get_or ls i no_lease))) i no_lease))

-- .. whatever is said to stand past the end of the table
pub twice-so : (end renewal i : ℕ) (ls : List LeaseSlot) (d e : LeaseSlot)
    → set (set ls i (until end (get_or ls i d))) i (renewed_as renewal (get_or (set ls i (until end (get_or ls i d))) i e)) ≡ twice end renewal i ls
twice-so end renewal i ls d e =
    ap (λ (m : List LeaseSlot). set m i (renewed_as renewal (get_or m i e))) (set_any (until end) d no_lease ls i)
    ∙ set_any (renewed_as renewal) e no_lease (set ls i (until end (get_or ls i no_lease))) i

module _ (end renewal i : ℕ) (ls : List LeaseSlot) (sized : length ls ≡ 9) (b : i < 8) where
  abbrev pub both : LeaseSlot
  both = renewed_as renewal (until end (get_or ls i no_lease))

  pub once : twice end renewal i ls ≡ set ls i both
  once =
      rw (get_or-set_same ls i (until end (get_or ls i no_lease)) no_lease (rw sized (omega (arith, b))))
      (set-set ls i (until end (get_or ls i no_lease)) both)

  by-presence : (p : Presence) (l : Lease) → lease_in (renewed_as renewal (until end (record { presence = p; lease = l }))) ≡ lengthened_to end renewal (lease_if p l)
  unfolding lengthened_to
  by-presence Absent l = refl
  by-presence Present l = refl

  lengthened-shown : map lease_in (take 8 (twice end renewal i ls))
      ≡ set (map lease_in (take 8 ls)) i (lengthened_to end renewal (get_or (map lease_in (take 8 ls)) i None))
  lengthened-shown =
      ap (λ (l : List LeaseSlot). map lease_in (take 8 l)) once
      ∙ shown-set lease_in 8 ls i both b
      ∙ ap (λ (o : Option Lease). set (map lease_in (take 8 ls)) i o)
      (by-presence (get_or ls i no_lease).presence (get_or ls i no_lease).lease
      ∙ ap (lengthened_to end renewal) (sym (shown-at lease_in no_lease 8 ls i b (rw sized (omega (arith, b))))))

module _ (h : Runtime) (e : first_failing (renew_checks h.renewal (book_on h)) ≡ None) where
  pub renewal-fits : h.renewal.now + h.renewal.duration_ms ≤ top
  unfolding renew_checks ready
  renewal-fits = leb-true _ _ (none-fails (renew_checks h.renewal (book_on h)) e).1.1.1.1.1.1.1.0

  pub renewal-axis : (axis : ℕ) → axis ≡ first_held h.renewal.owner h.renewal.lease_id (tables_in h).leases → axis < 8
  unfolding renew_checks ready book_of is_some
  renewal-axis axis f =
      let held = (none-fails (renew_checks h.renewal (book_on h)) e).1.1.1.1.1.0 in
      ⊎_elim (λ (b : axis < 8). b)
      (λ (b : 8 ≤ axis).
      absurd (false≢true (sym (ap is_some (none-held h.renewal.owner h.renewal.lease_id (book_on h) axis f b)) ∙ held)))
      (lt-or-ge axis 8)

pub held-shown : (h : Runtime) (g : Good h) (owner id axis : ℕ) → axis ≡ first_held owner id (tables_in h).leases → axis < 9
    → ShowsHeld owner id axis (get_or h.leases axis no_lease) (tables_in h)
held-shown h g owner id axis f b = record { first = f; shown = axis-shown h g axis b }

abbrev lengthening : Renewing → ℕ → Runtime → Runtime
lengthening r i h =
    altered (numbers_with h.numbers.next_lease h.numbers.epoch h.numbers.mode h.numbers.held r.soonest h.numbers) i h.revoked
    (twice r.expires_at h.renewal.renewal i h.leases) h.active h

pub lengthening-kept : (h : Runtime) (r : Renewing) (i : ℕ) → Kept h → i < 8 → Kept (lengthening r i h)
lengthening-kept h r i k b =
    let n = numbers_with h.numbers.next_lease h.numbers.epoch h.numbers.mode h.numbers.held r.soonest h.numbers in
    subst (λ (ls : List LeaseSlot). Kept (altered n i h.revoked ls h.active h))
    (sym (once r.expires_at h.renewal.renewal i h.leases k.sized.leases b))
    (kept-lease h k n i h.revoked i (both r.expires_at h.renewal.renewal i h.leases k.sized.leases b) b)

-- where no lease is held there is no receipt
extend-kind : (r : Renewal) (axis : Option ℕ) (l : Option Lease) (b : Book) → kind_of (proceed (extend r axis l b)) ≡ false
unfolding extend leased proceed record_receipt event numbered rejected is_rejected kind_in kind_at
extend-kind r (Some axis) (Some l) b = refl
extend-kind r (Some axis) None b = refl
extend-kind r None l b = refl

pub lengthens : (h : Runtime) (r : Renewing) (i : ℕ) (z : Runtime) (slot : ℕ) → Good h → i < 8 → PlacesIn false AfterRecord.Lease (lengthening r i h) z slot
    → Moves (lengthened r i h.renewal.renewal (state_in h)) Answer.Item (proceed (renewed None h.renewal (book_on h)))
    → MovesIn (filled_in slot r.receipt z) Answer.Item (proceed (renewed None h.renewal (book_on h)))
unfolding lengthened renewed
lengthens h r i z slot k b p v =
    recorded-in (lengthening r i h) (lengthening-kept h r i k.kept b) k.started r.receipt false AfterRecord.Lease z slot p _ (extend-kind h.renewal _ _ (book_on h))
    (rw (lengthened-shown r.expires_at h.renewal.renewal i h.leases k.kept.sized.leases b) v)

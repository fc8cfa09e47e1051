-- Grants and renewals over words: a decision made of what was looked up, its stores and its receipt go where the rule says. Assumes nothing.
use Prim.Native.Nat.{ℕ, ◌+◌, ◌-◌, ◌<◌, ◌≤◌}
use mathlib.Core.Bool.{Bool, true, false, ◌&&◌, false≢true}
use mathlib.Core.List.{List}
use Rattle.std.specs.Prelude.{None}
use mathlib.Core.Path.{◌≡◌, sym, subst, ◌∙◌}
use borrow.Author.Tests.{ltb-true, leb-true, lt-ltb, le-ltb, le-leb}
use native.Mathlib.Nat.{add_comm}
use native.Mathlib.Omega.{arith}
use lib.Dec.{ltb, leb}
use lib.ListN.{get_or, set}
use Rattle.model.specs.declared.LeaseRequest.{LeaseRequest}
use Rattle.model.specs.declared.LeaseSlot.{LeaseSlot}
use Rattle.model.specs.declared.Receipt.{Receipt}
use Rattle.model.specs.declared.Renewal.{Renewal}
use Rattle.model.specs.Records.{no_lease}
use Rattle.model.proofs.Tests.{and_both}
use Rattle.rules.specs.Admission.{first_failing, allowed, acquire_checks, renew_checks}
use Rattle.rules.specs.Interaction.{Done, Refused}
use Rattle.rules.specs.Protocol.{Reaction, proceed}
use Rattle.rules.specs.Receipts.{top}
use Rattle.rules.specs.Rules.{grant, renewed}
use Rattle.state.specs.Axes.{first_held}
use Rattle.state.specs.State.{Tables, Asked, Hand, state, book_of, Sound, Moves}
use Rattle.state.specs.declared.AfterRecord.{AfterRecord}
use Rattle.state.specs.declared.Answer.{Answer}
use Rattle.state.specs.declared.Fixed.{Fixed}
use Rattle.state.specs.declared.Numbers.{Numbers}
use Rattle.decide_ready.specs.Checks.{failure_of}
use Rattle.decide_ready.specs.declared.Ruling.{Ruling}
use Rattle.decide_ready.specs.declared.Verdict.TheVariants as Verdict
use Rattle.decide_lease.specs.Leases.{ShowsAxis, ShowsHeld, numbers_with, granted, lengthened}
use Rattle.decide_lease.specs.declared.Granting.{Granting}
use Rattle.decide_lease.specs.declared.Renewing.{Renewing}
use Rattle.decide_lease.proofs.Numbers.{sum_fits}
use Rattle.runtime.specs.declared.Runtime.{Runtime}
use Rattle.runtime.specs.Kept.{filled_in}
use Rattle.runtime.specs.Promises.{Kept, Good, MovesIn, PlacesIn, spare_or}
use Rattle.runtime.specs.Runtimes.{tables_in, asked_in, hand_in, book_on}
use Rattle.runtime.proofs.Leases.{request-axis, request-fits, request-free, granting-kept, grants, renewal-axis, renewal-fits, held-shown, lengthening-kept, lengthens, once}
use Rattle.runtime.proofs.Rulings.{passed-so, failed-so, request-shown, acquires, refuses-acquire, renews, refuses-renew}
use Rattle.layout.specs.Fields.{with_numbers, with_axis, with_leases}
use Rattle.layout.specs.Layout.{runtime_in, Becomes}
use Rattle.layout.specs.Promises.{Goes}
use Rattle.host_store.specs.Stores.{RecordsIn}
use Rattle.host_steps.specs.Altered.{lengthened_slot}
use Rattle.layout.proofs.Chains.{same_then, becomes-then}

-- the test of an axis and an end, made with a difference
module _ (axis time duration : ℕ) where
  pub fits-so : time ≤ top → axis < 8 → leb duration (top - time) ≡ (ltb axis 8 && leb (time + duration) top)
  fits-so h b = rw (lt-ltb axis 8 b, sum_fits duration time top h, add_comm duration time)

  pub unfit-so : 8 ≤ axis → ltb axis 8 ≡ (ltb axis 8 && leb (time + duration) top)
  unfit-so b = rw (le-ltb axis 8 b)

-- .. and what it says, where it passes
module _ (axis time duration : ℕ) {b : Bool} (e : b ≡ (ltb axis 8 && leb (time + duration) top)) where
  pub axis-fits : b ≡ true → axis < 8
  axis-fits t = ltb-true axis 8 (and_both (ltb axis 8) (leb (time + duration) top) (sym e ∙ t)).0

  pub end_fits : b ≡ true → time + duration ≤ top
  end_fits t = leb-true (time + duration) top (and_both (ltb axis 8) (leb (time + duration) top) (sym e ∙ t)).1

  -- .. so where they fit it can't fail
  never : b ≡ false → axis < 8 → time + duration ≤ top → {A : Type 0} → A
  never f x y = absurd (false≢true (sym f ∙ e ∙ rw (lt-ltb axis 8 x, le-leb (time + duration) top y)))

-- a receipt recorded in what was stored
records-goes : {w d w' : List ℕ} {rt : Runtime} {rejection : Bool} {after : AfterRecord} {receipt : Receipt} {r : Answer} {x : Reaction} (given : Type 0)
    → Becomes w d rt → RecordsIn rejection after receipt d w' → (given → Kept rt)
    → (given → (z : Runtime) (slot : ℕ) → PlacesIn rejection after rt z slot → MovesIn (filled_in slot receipt z) r x) → Goes w w' r given x
records-goes {rejection = rejection} {after} {receipt} {r} {x} given p q k m =
    record {
      same = same_then p.same q.same;
      moves =
          λ g.
          subst (λ (h : Runtime). MovesIn h r x) (sym q.filled)
          (m g q.between q.slot
          (subst (λ (h : Runtime). PlacesIn rejection after h q.between q.slot) p.stored (q.places (subst Kept (sym p.stored) (k g)))));
    }

-- a grant ---------------------------------------------------------------------------------------------------------------------

abbrev Granted : List ℕ → ℕ → Type 0
Granted w time = Good (runtime_in w) × (first_failing (acquire_checks (runtime_in w).request time (book_on (runtime_in w))) ≡ None)

pub unfit-grant : {w w' : List ℕ} {r : Answer} (request : LeaseRequest) (time : ℕ) {b : Bool} {x : Reaction} → request ≡ (runtime_in w).request
    → b ≡ (ltb request.resource 8 && leb (time + request.duration_ms) top) → b ≡ false → Goes w w' r (Good (runtime_in w)) x
    → Goes w w' r (Granted w time) (proceed (grant None (runtime_in w).request time (book_on (runtime_in w))))
unfit-grant {w} request time q e f l =
    record {
      same = l.same;
      moves = λ g. never _ _ _ (rw q at e) f (request-axis (runtime_in w) time g.1 g.0.sound) (request-fits (runtime_in w) time g.1);
    }

pub grant-goes : {w a b d w' : List ℕ} {request : LeaseRequest} {fixed : Fixed} {numbers : Numbers} (time : ℕ) (g : Granting)
    → request ≡ (runtime_in w).request → fixed ≡ (runtime_in w).fixed → numbers ≡ (runtime_in w).numbers
    → ((t : Tables) (q : Asked) (h : Hand) → Sound (state fixed numbers t q h) → get_or t.leases request.resource None ≡ None
    → Moves (granted g request.resource (state fixed numbers t q h)) Answer.Item (proceed (grant None request time (book_of fixed numbers t))))
    → (x : Numbers) → x ≡ numbers_with g.next_lease g.epoch g.mode g.held g.soonest numbers
    → Becomes w a (with_numbers x (runtime_in w)) → Becomes a b (with_axis request.resource (runtime_in a))
    → Becomes b d (with_leases (set (runtime_in b).leases request.resource g.lease) (runtime_in b))
    → RecordsIn false AfterRecord.Lease g.receipt d w'
    → Goes w w' Answer.Item (Granted w time) (proceed (grant None (runtime_in w).request time (book_on (runtime_in w))))
grant-goes {w} time g q f n says x ex put-n put_a put-l rec =
    let h = runtime_in w in
    let i = h.request.resource in
    records-goes _
    (becomes-then (λ (z : Runtime). with_leases (set z.leases i g.lease) z) (becomes-then (with_axis i) (rw (ex, n) at put-n) (rw q at put_a)) (rw q at put-l))
    rec
    (λ k. granting-kept h g i k.0.kept (request-axis h time k.1 k.0.sound))
    (λ k z slot p.
    grants h time g z slot k.0 (request-axis h time k.1 k.0.sound) p
    ((rw (q, f, n) at says) (tables_in h) (asked_in h) (hand_in h) k.0.sound (request-free h time k.1)))

module _ (w : List ℕ) (request : LeaseRequest) (fixed : Fixed) (numbers : Numbers) (mask at : ℕ) (slot : LeaseSlot) (time : ℕ) (ruling : Ruling)
    (q : request ≡ (runtime_in w).request) (f : fixed ≡ (runtime_in w).fixed) (n : numbers ≡ (runtime_in w).numbers)
    (m : Good (runtime_in w) → mask ≡ allowed (tables_in (runtime_in w)).capabilities request.resource) (a : at ≡ spare_or request.resource)
    (s : slot ≡ get_or (runtime_in w).leases at no_lease)
    (says : (t : Tables) (q : Asked) (h : Hand) → Sound (state fixed numbers t q h) → ShowsAxis request.resource mask slot t
    → failure_of ruling ≡ first_failing (acquire_checks request time (book_of fixed numbers t))) where
  acquire-ruled : Good (runtime_in w) → failure_of ruling ≡ first_failing (acquire_checks (runtime_in w).request time (book_on (runtime_in w)))
  acquire-ruled g =
      (rw (q, f, n, s, a, m g, q) at says) (tables_in (runtime_in w)) (asked_in (runtime_in w)) (hand_in (runtime_in w)) g.sound (request-shown (runtime_in w) g)

  pub acquire-passed : {w' : List ℕ} {r : Answer} → ruling.verdict ≡ Verdict.Passed
      → Goes w w' r (Granted w time) (proceed (grant None (runtime_in w).request time (book_on (runtime_in w))))
      → Goes w w' r (Good (runtime_in w))
      (proceed (grant (first_failing (acquire_checks (runtime_in w).request time (book_on (runtime_in w)))) (runtime_in w).request time (book_on (runtime_in w))))
  acquire-passed {w'} {r} v l =
      record {
        same = l.same;
        moves = λ g. let e = passed-so ruling (acquire-ruled g) v in acquires (runtime_in w) (runtime_in w') r time e (l.moves (g, e));
      }

  pub acquire-failed : {w' : List ℕ} {r : Answer} → ruling.verdict ≡ Verdict.Failed → Goes w w' r (Good (runtime_in w)) (proceed (Done (book_on (runtime_in w)) (Refused ruling.reason)))
      → Goes w w' r (Good (runtime_in w))
      (proceed (grant (first_failing (acquire_checks (runtime_in w).request time (book_on (runtime_in w)))) (runtime_in w).request time (book_on (runtime_in w))))
  acquire-failed {w'} {r} v l =
      record {
        same = l.same;
        moves = λ g. refuses-acquire (runtime_in w) (runtime_in w') r time (failed-so ruling (acquire-ruled g) v) (l.moves g);
      }

-- a renewal -------------------------------------------------------------------------------------------------------------------

abbrev Renewed : List ℕ → ℕ → Type 0
Renewed w axis =
    Good (runtime_in w)
    × ((axis ≡ first_held (runtime_in w).renewal.owner (runtime_in w).renewal.lease_id (tables_in (runtime_in w)).leases)
    × (first_failing (renew_checks (runtime_in w).renewal (book_on (runtime_in w))) ≡ None))

pub unfit-renewal : {w w' : List ℕ} {r : Answer} (renewal : Renewal) (axis : ℕ) {b : Bool} {x : Reaction} → renewal ≡ (runtime_in w).renewal
    → b ≡ (ltb axis 8 && leb (renewal.now + renewal.duration_ms) top) → b ≡ false
    → Goes w w' r (Good (runtime_in w)) x → Goes w w' r (Renewed w axis) (proceed (renewed None (runtime_in w).renewal (book_on (runtime_in w))))
unfit-renewal {w} renewal axis q e f l =
    record {
      same = l.same;
      moves = λ g. never _ _ _ (rw q at e) f (renewal-axis (runtime_in w) g.1.1 axis g.1.0) (renewal-fits (runtime_in w) g.1.1);
    }

pub lengthen-goes : {w a b d w' : List ℕ} {renewal : Renewal} {fixed : Fixed} {numbers : Numbers} {slot : LeaseSlot} (axis : ℕ) (g : Renewing)
    → renewal ≡ (runtime_in w).renewal → fixed ≡ (runtime_in w).fixed → numbers ≡ (runtime_in w).numbers → slot ≡ get_or (runtime_in w).leases axis no_lease
    → ((t : Tables) (q : Asked) (h : Hand) → Sound (state fixed numbers t q h) → ShowsHeld renewal.owner renewal.lease_id axis slot t
    → Moves (lengthened g axis renewal.renewal (state fixed numbers t q h)) Answer.Item (proceed (renewed None renewal (book_of fixed numbers t))))
    → (x : Numbers) → x ≡ numbers_with numbers.next_lease numbers.epoch numbers.mode numbers.held g.soonest numbers
    → Becomes w a (with_numbers x (runtime_in w)) → Becomes a b (with_axis axis (runtime_in a))
    → (y : LeaseSlot) → y ≡ lengthened_slot g.expires_at renewal.renewal slot → Becomes b d (with_leases (set (runtime_in b).leases axis y) (runtime_in b))
    → RecordsIn false AfterRecord.Lease g.receipt d w'
    → Goes w w' Answer.Item (Renewed w axis) (proceed (renewed None (runtime_in w).renewal (book_on (runtime_in w))))
lengthen-goes {w} axis g q f n s says x ex put-n put_a y ey put-l rec =
    let h = runtime_in w in
    let new = lengthened_slot g.expires_at h.renewal.renewal (get_or h.leases axis no_lease) in
    let base = with_axis axis (with_numbers (numbers_with h.numbers.next_lease h.numbers.epoch h.numbers.mode h.numbers.held g.soonest h.numbers) h) in
    records-goes _
    (becomes-then (λ (z : Runtime). with_leases (set z.leases axis new) z) (becomes-then (with_axis axis) (rw (ex, n) at put-n) put_a) (rw (ey, q, s) at put-l))
    rec
    (λ k.
    let b = renewal-axis h k.1.1 axis k.1.0 in
    subst (λ (ls : List LeaseSlot). Kept (with_leases ls base)) (once g.expires_at h.renewal.renewal axis h.leases k.0.kept.sized.leases b)
    (lengthening-kept h g axis k.0.kept b))
    (λ k z at p.
    let b = renewal-axis h k.1.1 axis k.1.0 in
    lengthens h g axis z at k.0 b
    (subst (λ (ls : List LeaseSlot). PlacesIn false AfterRecord.Lease (with_leases ls base) z at)
    (sym (once g.expires_at h.renewal.renewal axis h.leases k.0.kept.sized.leases b)) p)
    ((rw (q, f, n, s) at says) (tables_in h) (asked_in h) (hand_in h) k.0.sound (held-shown h k.0 _ _ axis k.1.0 (omega (arith, b)))))

module _ (w : List ℕ) (renewal : Renewal) (fixed : Fixed) (numbers : Numbers) (axis : ℕ) (slot : LeaseSlot) (ruling : Ruling)
    (q : renewal ≡ (runtime_in w).renewal) (f : fixed ≡ (runtime_in w).fixed) (n : numbers ≡ (runtime_in w).numbers)
    (held : (Good (runtime_in w) → axis ≡ first_held renewal.owner renewal.lease_id (tables_in (runtime_in w)).leases) × (axis < 9))
    (s : slot ≡ get_or (runtime_in w).leases axis no_lease)
    (says : (t : Tables) → ShowsHeld renewal.owner renewal.lease_id axis slot t → failure_of ruling ≡ first_failing (renew_checks renewal (book_of fixed numbers t))) where
  held-so : Good (runtime_in w) → axis ≡ first_held (runtime_in w).renewal.owner (runtime_in w).renewal.lease_id (tables_in (runtime_in w)).leases
  held-so = rw q at held.0

  renew-ruled : Good (runtime_in w) → failure_of ruling ≡ first_failing (renew_checks (runtime_in w).renewal (book_on (runtime_in w)))
  renew-ruled g = (rw (q, f, n, s) at says) (tables_in (runtime_in w)) (held-shown (runtime_in w) g _ _ axis (held-so g) held.1)

  pub renew-passed : {w' : List ℕ} {r : Answer} → ruling.verdict ≡ Verdict.Passed
      → Goes w w' r (Renewed w axis) (proceed (renewed None (runtime_in w).renewal (book_on (runtime_in w))))
      → Goes w w' r (Good (runtime_in w))
      (proceed (renewed (first_failing (renew_checks (runtime_in w).renewal (book_on (runtime_in w)))) (runtime_in w).renewal (book_on (runtime_in w))))
  renew-passed {w'} {r} v l =
      record {
        same = l.same;
        moves = λ g. let e = passed-so ruling (renew-ruled g) v in renews (runtime_in w) (runtime_in w') r e (l.moves (g, (held-so g, e)));
      }

  pub renew-failed : {w' : List ℕ} {r : Answer} → ruling.verdict ≡ Verdict.Failed → Goes w w' r (Good (runtime_in w)) (proceed (Done (book_on (runtime_in w)) (Refused ruling.reason)))
      → Goes w w' r (Good (runtime_in w))
      (proceed (renewed (first_failing (renew_checks (runtime_in w).renewal (book_on (runtime_in w)))) (runtime_in w).renewal (book_on (runtime_in w))))
  renew-failed {w'} {r} v l =
      record {
        same = l.same;
        moves = λ g. refuses-renew (runtime_in w) (runtime_in w') r (failed-so ruling (renew-ruled g) v) (l.moves g);
      }

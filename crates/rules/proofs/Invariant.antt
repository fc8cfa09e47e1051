-- The invariant of log and book, and that every step on the book keeps it. It is a record over what the log and the book say (orders
-- executed and admitted, live leases, ..), so that a step which touches none of it is the identity. Assumes nothing.
use Prim.Native.Nat.{ℕ, zero, suc, ◌+◌, ◌<◌, ◌≤◌}
use mathlib.Core.Bool.{Bool, true, false, cond, false≢true}
use mathlib.Core.List.{List, [], ◌∷◌, map}
use mathlib.Core.Logic.{inl, inr, ◌≢◌}
use Rattle.std.specs.Prelude.{Option, Some, None}
use Rattle.std.proofs.lemmas.Option.{none-some}
use Rattle.model.proofs.Options.{some-injective}
use mathlib.Core.Path.{◌≡◌, refl, sym, ap, ◌∙◌, subst}
use native.Mathlib.Omega.{arith}
use borrow.Author.Tests.{eqb-true, eq-eqb, ne_eqb}
use lib.Dec.{eqb}
use lib.IntN.{ℤ}
use lib.ListN.{length, length-set, get_or, set, take, replicate}
use lib.Seq.{take-take}
use Rattle.model.specs.declared.Action.{Action}
use Rattle.model.specs.declared.Active.{Active}
use Rattle.model.specs.declared.Capability.{Capability}
use Rattle.model.specs.declared.Config.{Config}
use Rattle.model.specs.declared.Lease.{Lease}
use Rattle.model.specs.declared.LeaseRequest.{LeaseRequest}
use Rattle.model.specs.declared.Reason.{Reason}
use Rattle.model.specs.declared.Receipt.{Receipt}
use Rattle.model.specs.declared.Renewal.{Renewal}
use Rattle.model.specs.declared.Replay.{Replay}
use Rattle.model.specs.declared.RuntimeState.{RuntimeState}
use Rattle.model.specs.declared.Submission.{Submission}
use Rattle.rules.specs.Book.{Book, lease_at}
use Rattle.rules.specs.With.{with_leases, with_active, with_replay, with_receipts, with_next_receipt, with_next_lease, with_epoch, with_flags, with_last_tick, with_state, with_invalid_count, with_estop_seen}
use Rattle.rules.specs.Receipts.{top, bump, receipt_capacity, keep, kept}
use Rattle.rules.specs.Interaction.{Answer, Returned, Polled, Succeeded, Leased as LeasedTo, Refused, Submitted}
use Rattle.rules.specs.Rules.{replay_capacity, masked, bump_epoch, cleared, refresh_state, new_lease, granted, extended, with_sequence, consumed}
use Rattle.rules.specs.Protocol.{Call, Acquire, Renew, Submit, Reply, ItemObserve, ItemExecute, ItemFallback, ItemRecord, Start, opening, refused_start}
use Rattle.rules.specs.Log.{Took, Replied, Handed, Ended, Log, call_of, submission_in, reaching, executed, counted, next_number, kept_with, receipts_kept, observing, dispatching, Admitted, admitted_as, admitting, admissions, entry_of, highest, Tenancy, tenancy_of, until, renewed_by, is_control, is_grant, recorded_on, holding, live}
use Rattle.rules.specs.Epoch.{seen_raise, stops, falls_for, in_force, flags_of, bumps_at, bumps}
use Rattle.rules.specs.Lists.{Mem, Distinct}
use Rattle.rules.specs.SoundStart.{SoundStart}
use Rattle.rules.specs.Claim.{Carried, Leased, Observing, Recording, tenancy_in, Rising, Name, name_of}
use Rattle.rules.specs.StopFacts.{Reported}
use Rattle.rules.proofs.Soundness.{sound-start}
use Rattle.rules.proofs.Safe.{Plain}
use Rattle.rules.proofs.Keeps.{at_set, at-set-in}
use Rattle.rules.proofs.Receipts.{rising-keep}
use Rattle.rules.proofs.Counters.{bump-up, bump-below, highest-none, highest-above, highest-new, highest-other}
use Rattle.rules.proofs.Epochs.{EpochsOf, EpochsAt, epochs-took, epochs-stopped, epochs-fallen, epochs-startup, epochs-recorded, epochs-granted}

-- ---- the invariant, in three parts, with Epochs as a fourth

abbrev pub held : Option Lease → Option Tenancy
held None = None
held (Some x) = Some (tenancy_in x)

abbrev IdBelow : ℕ → Option Lease → Type 0
IdBelow n None = Unit
IdBelow n (Some x) = x.id < n

abbrev pub LastIs : List Admitted → Option Lease → Type 0
LastIs A None = Unit
LastIs A (Some x) = x.last_sequence ≡ highest x.id A

-- a lease names the axis on which it stands
abbrev OnAxis : ℕ → Option Lease → Type 0
OnAxis i None = Unit
OnAxis i (Some x) = x.resource ≡ i

abbrev Unique : List (Option Lease) → Type 0
Unique ls = (i j : ℕ) (x y : Lease) → get_or ls i None ≡ Some x → get_or ls j None ≡ Some y → x.id ≡ y.id → i ≡ j

-- the leases: `A` were admitted, `L` are the live leases
pub record Leases (A : List Admitted) (L : ℕ → Option Tenancy) (leases : List (Option Lease)) (next_lease : ℕ) : Type 0 where
  pub eight : length leases ≡ 8
  pub fits : next_lease ≤ top
  pub below : (i : ℕ) → IdBelow next_lease (get_or leases i None)
  pub unique : Unique leases
  pub stands : (i : ℕ) → L i ≡ held (get_or leases i None)
  pub known : (a : Admitted) → Mem a A → a.submission.action.lease_id < next_lease
  pub last : (i : ℕ) → LastIs A (get_or leases i None)
  pub home : (i : ℕ) → OnAxis i (get_or leases i None)

abbrev pub orders : List Submission → List Action
orders xs = map (λ x. x.action) xs

-- the orders: `E` reached execute, `A` were admitted
pub record Orders (s : Start) (E : List Submission) (A : List Admitted) (entries : List Replay) : Type 0 where
  pub replay : entries ≡ take replay_capacity (map entry_of A)
  pub apart : Distinct (map name_of entries)
  pub among : (x : Submission) → Mem x E → (a : Admitted) × Mem a A × (a.submission ≡ x)
  pub home : (o : Action) → Mem o (orders E) → o.boot_id ≡ s.boot_id
  pub distinct : Distinct (orders E)

-- the receipts: `R` are those kept, `N` is the next one's number
pub record Receipts (R : List Receipt) (N : ℕ) (receipts : List Receipt) (next_receipt : ℕ) : Type 0 where
  pub kept : receipts ≡ R
  pub next : next_receipt ≡ N
  pub rising : next_receipt < top → Rising next_receipt receipts

pub record Inv (s : Start) (E : List Submission) (A : List Admitted) (L : ℕ → Option Tenancy) (R : List Receipt) (N : ℕ)
    (boot : ℕ) (configured : Config) (caps : List Capability) (leases : List (Option Lease)) (next_lease : ℕ) (entries : List Replay)
    (receipts : List Receipt) (next_receipt : ℕ) : Type 0 where
  pub sound : SoundStart s
  pub own : boot ≡ s.boot_id
  pub config : configured ≡ s.config
  pub capabilities : caps ≡ s.capabilities
  pub leasing : Leases A L leases next_lease
  pub ordered : Orders s E A entries
  pub counts : Receipts R N receipts next_receipt

abbrev pub InvBook : Start → Log → Book → Type 0
InvBook s l b =
    Inv s (executed l) (admissions l) (λ i. live i l) (receipts_kept l) (next_number l)
    b.boot_id b.config b.capabilities b.leases b.next_lease b.replay b.receipts b.next_receipt

abbrev pub Proper : Start → Log → ℕ → List ℤ → Type 0
Proper s l c p = (k : Carried l c p) × Leased s l k.submission

abbrev pub Answering : Log → Answer → Type 0
Answering l Returned = Unit
Answering l (Polled new) = Unit
Answering l Succeeded = Unit
Answering l (LeasedTo x) = Unit
Answering l (Refused reason) = Unit
Answering l (Submitted r) = Reported (dispatching l) r

-- what the newest event says, if it is an observe, an execute or a record item, or an order's end
abbrev pub Carry : Start → Log → Type 0
Carry s [] = Unit
Carry s (Took c ∷ l) = Unit
Carry s (Replied r ∷ l) = Unit
Carry s (Handed (ItemObserve axis) ∷ l) = Observing s l axis
Carry s (Handed (ItemExecute c p) ∷ l) = Proper s (Handed (ItemExecute c p) ∷ l) c p
Carry s (Handed (ItemFallback axis r) ∷ l) = Unit
Carry s (Handed (ItemRecord r) ∷ l) = Recording l r
Carry s (Ended a ∷ l) = Answering l a

abbrev pub I : Start → Log → Book → Type 0
I s l b = InvBook s l b × Carry s l × EpochsOf s l b

-- ---- steps that the invariant does not see

module _ (s : Start) (l : Log) (b : Book) (h : I s l b) where
  pub inv-replied : (r : Reply) → I s (Replied r ∷ l) b
  unfolding executed admissions live receipts_kept next_number seen_raise flags_of stops in_force bumps bumps_at
  inv-replied r = (h.0, tt, h.2)

  pub inv-restated : (x : RuntimeState) → I s l (with_state x b)
  unfolding with_state
  inv-restated x = h

  pub inv-ticked : (now : ℕ) → I s l (with_last_tick now b)
  unfolding with_last_tick
  inv-ticked now = h

  pub inv-counted : (n : ℕ) → I s l (with_invalid_count n b)
  unfolding with_invalid_count
  inv-counted n = h

  pub inv-active : (x : List (Option Active)) → I s l (with_active x b)
  unfolding with_active
  inv-active x = h

  pub inv-refreshed : I s l (refresh_state b)
  unfolding refresh_state
  inv-refreshed = inv-restated _

-- ---- a call is taken, and ends

-- one that neither stops nor polls
pub inv-took : (s : Start) (c : Call) (l : Log) (b : Book) → stops (Took c) l ≡ false → seen_raise (Took c ∷ l) ≡ seen_raise l → I s l b
    → I s (Took c ∷ l) b
unfolding executed admissions live receipts_kept next_number
inv-took s c l b no_stop same h = (h.0, tt, epochs-took s c l b no_stop same h.2)

-- a stop, once the mask is set in the flags, and the raise number seen
pub inv-stopped : (s : Start) (c : Call) (now : ℕ) (l : Log) (b : Book) (seen : ℕ) → stops (Took c) l ≡ true → seen ≡ seen_raise (Took c ∷ l) → I s l b
    → I s (Took c ∷ l) (masked now (with_estop_seen seen b))
unfolding executed admissions live receipts_kept next_number masked with_estop_seen with_last_tick with_flags bump_epoch with_epoch
inv-stopped s c now l b seen stop same h = (h.0, tt, epochs-stopped s c l b seen stop h.0.config same h.2)

-- as it ends, the flags that this brings into force are set
pub inv-ended : (s : Start) (a : Answer) (l : Log) (b : Book) → Answering l a → InvBook s l b → EpochsAt s (Ended a) l b → I s (Ended a ∷ l) b
unfolding executed admissions live receipts_kept next_number seen_raise bumps bumps_at
inv-ended s a l b carry f e = (f, carry, e)

-- ---- a receipt of an order or a fallback

quiet-live : (axis : ℕ) (r : Receipt) (c : Option Call) (old : Option Tenancy) → is_control r.decision ≡ false → recorded_on axis r c old ≡ old
unfolding recorded_on
quiet-live axis r c old e = rw e

quiet-grant : (r : Receipt) → is_control r.decision ≡ false → is_grant r ≡ false
unfolding is_grant
quiet-grant r e = rw e

-- a receipt with the next number
receipts-kept : {R : List Receipt} {N : ℕ} {rs : List Receipt} {n : ℕ} (r : Receipt) → r.receipt_id ≡ n → Receipts R N rs n
    → Receipts (keep receipt_capacity R r) (bump N) (keep receipt_capacity rs r) (bump n)
receipts-kept {rs = rs} {n = n} r id c =
    record { kept = ap (λ (x : List Receipt). keep receipt_capacity x r) c.kept; next = ap bump c.next; rising = rising }
  where
    rising : bump n < top → Rising (bump n) (keep receipt_capacity rs r)
    rising h =
        let room : n < top = omega (arith, bump-up n) in
        rw (bump-below n room) (rising-keep n rs r id (c.rising room))

-- the same live leases
leases-live : {A : List Admitted} {L M : ℕ → Option Tenancy} {ls : List (Option Lease)} {n : ℕ} → ((i : ℕ) → M i ≡ L i) → Leases A L ls n → Leases A M ls n
leases-live e f =
    record {
      eight = f.eight;
      fits = f.fits;
      below = f.below;
      unique = f.unique;
      stands = λ i. e i ∙ f.stands i;
      known = f.known;
      last = f.last;
      home = f.home;
    }

pub inv-recorded : (s : Start) (r : Receipt) (l : Log) (b : Book) → is_control r.decision ≡ false → r.receipt_id ≡ b.next_receipt → I s l b
    → I s (Handed (ItemRecord r) ∷ l) (kept r b)
unfolding executed reaching admissions admitting live holding receipts_kept kept_with next_number counted kept with_next_receipt with_receipts
inv-recorded s r l b quiet id h =
    let f = h.0 in
    let k = f.counts in (
      record {
        sound = f.sound;
        own = f.own;
        config = f.config;
        capabilities = f.capabilities;
        leasing = leases-live (λ i. quiet-live i r (call_of l) (live i l) quiet) f.leasing;
        ordered = f.ordered;
        counts = receipts-kept r id k;
      },
      record {
        numbered = id ∙ k.next;
        free = λ e. absurd (false≢true (sym (quiet-grant r quiet) ∙ e));
        below = λ e. absurd (false≢true (sym (quiet-grant r quiet) ∙ e));
      },
      epochs-recorded s r l b (quiet-grant r quiet) h.2,
    )

-- ---- a fallback ends the lease of its axis

leases-fallen : (A : List Admitted) (L : ℕ → Option Tenancy) (ls : List (Option Lease)) (n axis : ℕ) → Leases A L ls n
    → Leases A (λ i. cond (eqb axis i) None (L i)) (set ls axis None) n
leases-fallen A L ls n axis f =
    record {
      eight = length-set ls axis None ∙ f.eight;
      fits = f.fits;
      below = λ i. at_set None (IdBelow n) ls axis None i (λ e. tt) (λ m. f.below i);
      unique = λ i j x y.
          at_set None (λ o. o ≡ Some x → get_or (set ls axis None) j None ≡ Some y → x.id ≡ y.id → i ≡ j) ls axis None i
          (λ e p. absurd (none-some _ p))
          (λ m p. at_set None (λ o. o ≡ Some y → x.id ≡ y.id → i ≡ j) ls axis None j (λ e q. absurd (none-some _ q)) (λ k q. f.unique i j x y p q));
      stands = λ i. at_set None (λ o. cond (eqb axis i) None (L i) ≡ held o) ls axis None i
          (λ e. rw (eq-eqb axis i (sym e)))
          (λ m. ended i (eqb axis i) refl m (f.stands i));
      known = f.known;
      last = λ i. at_set None (LastIs A) ls axis None i (λ e. tt) (λ m. f.last i);
      home = λ i. at_set None (OnAxis i) ls axis None i (λ e. tt) (λ m. f.home i);
    }
  where
    ended : (i : ℕ) (t : Bool) → eqb axis i ≡ t → (i ≡ axis → get_or ls i None ≡ None) → L i ≡ held (get_or ls i None) → cond t None (L i) ≡ held (get_or ls i None)
    ended i true e m k = sym (ap held (m (sym (eqb-true axis i e))))
    ended i false e m k = k

-- as the item is handed out, the flags that it brings into force are set
pub inv-fallen : (s : Start) (axis : ℕ) (reason : Reason) (c : Call) (l : Log) (b : Book) → call_of l ≡ Some c → InvBook s l b
    → EpochsAt s (Handed (ItemFallback axis reason)) l b → I s (Handed (ItemFallback axis reason) ∷ l) (cleared axis b)
unfolding executed reaching admissions admitting live holding receipts_kept kept_with next_number counted cleared bump_epoch with_epoch with_leases with_active
inv-fallen s axis reason c l b call f e = (
  record {
    sound = f.sound;
    own = f.own;
    config = f.config;
    capabilities = f.capabilities;
    leasing = leases-fallen (admissions l) (λ i. live i l) b.leases b.next_lease axis f.leasing;
    ordered = f.ordered;
    counts = f.counts;
  },
  tt,
  epochs-fallen s axis reason c l b call e,
)

-- ---- leases of one number

below_at : (n : ℕ) (o : Option Lease) (y : Lease) → o ≡ Some y → IdBelow n o → y.id < n
below_at n o y e h = rw e at h

last-at : (A : List Admitted) (o : Option Lease) (y : Lease) → o ≡ Some y → LastIs A o → y.last_sequence ≡ highest y.id A
last-at A o y e h = rw e at h

home_at : (i : ℕ) (o : Option Lease) (y : Lease) → o ≡ Some y → OnAxis i o → y.resource ≡ i
home_at i o y e h = rw e at h

-- a lease with a number that none has
unique-new : (ls : List (Option Lease)) (axis n : ℕ) (v : Lease) → v.id ≡ n → ((i : ℕ) → IdBelow n (get_or ls i None)) → Unique ls → Unique (set ls axis (Some v))
unique-new ls axis n v id below unique i j x y =
    at_set None (λ o. o ≡ Some x → get_or (set ls axis (Some v)) j None ≡ Some y → x.id ≡ y.id → i ≡ j) ls axis (Some v) i
    (λ e p. at_set None (λ o. o ≡ Some y → x.id ≡ y.id → i ≡ j) ls axis (Some v) j
    (λ e' q k. e ∙ sym e')
    (λ m q k. absurd (omega (arith, below_at n (get_or ls j None) y q (below j), ap (λ (z : Lease). z.id) (some-injective _ _ p)))))
    (λ m p. at_set None (λ o. o ≡ Some y → x.id ≡ y.id → i ≡ j) ls axis (Some v) j
    (λ e q k. absurd (omega (arith, below_at n (get_or ls i None) x p (below i), ap (λ (z : Lease). z.id) (some-injective _ _ q))))
    (λ m' q k. unique i j x y p q k))

-- a lease with the number of the one that it takes the place of
unique-same : (ls : List (Option Lease)) (axis : ℕ) (u v : Lease) → get_or ls axis None ≡ Some u → v.id ≡ u.id → Unique ls → Unique (set ls axis (Some v))
unique-same ls axis u v at id unique i j x y =
    at_set None (λ o. o ≡ Some x → get_or (set ls axis (Some v)) j None ≡ Some y → x.id ≡ y.id → i ≡ j) ls axis (Some v) i
    (λ e p. at_set None (λ o. o ≡ Some y → x.id ≡ y.id → i ≡ j) ls axis (Some v) j
    (λ e' q k. e ∙ sym e')
    (λ m q k. e ∙ unique axis j u y at q (sym id ∙ ap (λ (z : Lease). z.id) (some-injective _ _ p) ∙ k)))
    (λ m p. at_set None (λ o. o ≡ Some y → x.id ≡ y.id → i ≡ j) ls axis (Some v) j
    (λ e q k. unique i axis x u p at (k ∙ sym (ap (λ (z : Lease). z.id) (some-injective _ _ q)) ∙ id) ∙ sym e)
    (λ m' q k. unique i j x y p q k))

-- ---- a grant: the lease number is new

pub record Granting (r : Receipt) (request : LeaseRequest) (n : ℕ) (next : ℕ) : Type 0 where
  pub control : is_control r.decision ≡ true
  pub grant : is_grant r ≡ true
  pub axis : r.resource ≡ request.resource
  pub lease : r.lease_id ≡ n
  pub number : r.receipt_id ≡ next

pub inv-granted : (s : Start) (r : Receipt) (request : LeaseRequest) (now : ℕ) (l : Log) (b : Book) → Granting r request b.next_lease b.next_receipt
    → request.resource < 8 → b.next_lease < top → lease_at b request.resource ≡ None → call_of l ≡ Some (Acquire request now) → I s l b
    → I s (Handed (ItemRecord r) ∷ l) (kept r (granted (new_lease request b.next_lease now) b))
unfolding executed reaching admissions admitting live holding recorded_on tenancy_of receipts_kept kept_with next_number counted kept with_next_receipt with_receipts granted refresh_state with_state bump_epoch with_epoch with_leases with_next_lease new_lease
inv-granted s r request now l b g inside room free call h =
    let f = h.0 in
    let k = f.counts in
    let n = f.leasing in
    let axis = request.resource in
    let x = new_lease request b.next_lease now in
    let up : bump b.next_lease ≡ b.next_lease + 1 = bump-below b.next_lease room in (
      record {
        sound = f.sound;
        own = f.own;
        config = f.config;
        capabilities = f.capabilities;
        leasing =
            record {
              eight = length-set b.leases axis (Some x) ∙ n.eight;
              fits = omega arith;
              below = λ i. at_set None (IdBelow (bump b.next_lease)) b.leases axis (Some x) i (λ e. omega arith) (λ m. more (get_or b.leases i None) up (n.below i));
              unique = unique-new b.leases axis b.next_lease x refl n.below n.unique;
              stands = λ i. at-set-in None (λ o. recorded_on i r (call_of l) (live i l) ≡ held o) b.leases axis (Some x) i (omega (arith, n.eight))
                  (λ e. rw (g.control, eq-eqb _ _ (g.axis ∙ sym e), g.grant, g.lease, call))
                  (λ d. rw (g.control, ne_eqb _ _ (λ q. d (sym q ∙ g.axis))) (n.stands i));
              known = λ a m. omega (arith, n.known a m);
              last = λ i. at_set None (LastIs (admissions l)) b.leases axis (Some x) i
                  (λ e. sym (highest-none b.next_lease (admissions l) (λ a m q. omega (arith, n.known a m)))) (λ m. n.last i);
              home = λ i. at_set None (OnAxis i) b.leases axis (Some x) i (λ e. sym e) (λ m. n.home i);
            };
        ordered = f.ordered;
        counts = receipts-kept r g.number k;
      },
      record {
        numbered = g.number ∙ k.next;
        free = λ e. rw g.axis (n.stands axis ∙ ap held free);
        below = λ e. rw g.lease room;
      },
      epochs-granted s r l b g.grant h.2,
    )
  where
    more : (o : Option Lease) → bump b.next_lease ≡ b.next_lease + 1 → IdBelow b.next_lease o → IdBelow (bump b.next_lease) o
    more None up k = tt
    more (Some y) up k = omega arith

-- ---- a renewal: the same lease with another end

pub record Renewing (r : Receipt) (axis next : ℕ) : Type 0 where
  pub control : is_control r.decision ≡ true
  pub no-grant : is_grant r ≡ false
  pub on : r.resource ≡ axis
  pub number : r.receipt_id ≡ next

pub inv-renewed : (s : Start) (r : Receipt) (axis : ℕ) (renewal : Renewal) (x : Lease) (l : Log) (b : Book) → Renewing r axis b.next_receipt
    → lease_at b axis ≡ Some x → call_of l ≡ Some (Renew renewal) → I s l b
    → I s (Handed (ItemRecord r) ∷ l) (kept r (with_leases (set b.leases axis (Some (extended renewal x))) b))
unfolding executed reaching admissions admitting live holding recorded_on renewed_by until receipts_kept kept_with next_number counted kept with_next_receipt with_receipts with_leases extended
inv-renewed s r axis renewal x l b g at call h =
    let f = h.0 in
    let k = f.counts in
    let n = f.leasing in
    let v = extended renewal x in (
      record {
        sound = f.sound;
        own = f.own;
        config = f.config;
        capabilities = f.capabilities;
        leasing =
            record {
              eight = length-set b.leases axis (Some v) ∙ n.eight;
              fits = n.fits;
              below = λ i. at_set None (IdBelow b.next_lease) b.leases axis (Some v) i (λ e. below_at _ _ x at (n.below axis)) (λ m. n.below i);
              unique = unique-same b.leases axis x v at refl n.unique;
              stands = λ i. at_set None (λ o. recorded_on i r (call_of l) (live i l) ≡ held o) b.leases axis (Some v) i
                  (λ e. rw (g.control, eq-eqb _ _ (g.on ∙ sym e), g.no-grant, call) (rw (e, n.stands axis, at)))
                  (λ m. rw g.control (other i (eqb r.resource i) refl m));
              known = n.known;
              last = λ i. at_set None (LastIs (admissions l)) b.leases axis (Some v) i (λ e. last-at _ _ x at (n.last axis)) (λ m. n.last i);
              home = λ i. at_set None (OnAxis i) b.leases axis (Some v) i (λ e. home_at _ _ x at (n.home axis) ∙ sym e) (λ m. n.home i);
            };
        ordered = f.ordered;
        counts = receipts-kept r g.number k;
      },
      record {
        numbered = g.number ∙ k.next;
        free = λ e. absurd (false≢true (sym g.no-grant ∙ e));
        below = λ e. absurd (false≢true (sym g.no-grant ∙ e));
      },
      epochs-recorded s r l b g.no-grant h.2,
    )
  where
    same : (i : ℕ) → eqb r.resource i ≡ true → i ≡ axis
    same i e = sym (eqb-true _ _ e) ∙ g.on

    other : (i : ℕ) (t : Bool) → eqb r.resource i ≡ t → (i ≡ axis → get_or b.leases i None ≡ None)
        → cond t (cond (is_grant r) (tenancy_of r.lease_id (call_of l)) (renewed_by (call_of l) (live i l))) (live i l) ≡ held (get_or b.leases i None)
    other i true e m = absurd (none-some _ (sym (m (same i e)) ∙ ap (λ (j : ℕ). get_or b.leases j None) (same i e) ∙ at))
    other i false e m = h.0.leasing.stands i

-- ---- an order is admitted as its first observe item is handed out

-- what the invariant needs of an order's admission
pub record Passed (o : Submission) (c : Capability) (x : Lease) (b : Book) : Type 0 where
  pub boot : o.action.boot_id ≡ b.boot_id
  pub inside : c.resource < 8
  pub leased : lease_at b c.resource ≡ Some x
  pub lease : x.id ≡ o.action.lease_id
  pub above : x.last_sequence < o.action.sequence
  pub unused : (e : Replay) → Mem e b.replay → e.owner ≡ o.principal → e.action_id ≢ o.action.action_id

take-entries : (e : Replay) (es xs : List Replay) → es ≡ take replay_capacity xs → take replay_capacity (e ∷ es) ≡ take replay_capacity (e ∷ xs)
take-entries e es xs h = ap (λ (r : List Replay). e ∷ r) (ap (take 31) h ∙ take-take 31 32 xs (omega arith))

-- fewer of distinct names
mem-names : (n : ℕ) (x : Name) (es : List Replay) → Mem x (map name_of (take n es)) → Mem x (map name_of es)
mem-names zero x es m = absurd m
mem-names (suc n) x [] m = absurd m
mem-names (suc n) x (e ∷ es) (inl q) = inl q
mem-names (suc n) x (e ∷ es) (inr m) = inr (mem-names n x es m)

distinct-names : (n : ℕ) (es : List Replay) → Distinct (map name_of es) → Distinct (map name_of (take n es))
distinct-names zero es d = tt
distinct-names (suc n) [] d = tt
distinct-names (suc n) (e ∷ es) d = (λ m. d.0 (mem-names n (name_of e) es m), distinct-names n es d.1)

named-entry : (x : Name) (es : List Replay) → Mem x (map name_of es) → (e : Replay) × Mem e es × (x ≡ name_of e)
named-entry x [] m = absurd m
named-entry x (e ∷ es) (inl q) = (e, inl refl, q)
named-entry x (e ∷ es) (inr m) = let r = named-entry x es m in (r.0, inr r.1, r.2)

orders-admitted : (s : Start) (E : List Submission) (A : List Admitted) (es : List Replay) (o : Submission) (n : ℕ)
    → ((e : Replay) → Mem e es → e.owner ≡ o.principal → e.action_id ≢ o.action.action_id) → Orders s E A es
    → Orders s E (admitted_as n o ∷ A) (take replay_capacity (entry_of (admitted_as n o) ∷ es))
orders-admitted s E A es o n unused f =
    record {
      replay = take-entries _ es (map entry_of A) f.replay;
      apart = (fresh-name, distinct-names 31 es f.apart);
      among = λ y m. let q = f.among y m in (q.0, inr q.1, q.2);
      home = f.home;
      distinct = f.distinct;
    }
  where
    fresh-name : ¬ Mem (name_of (entry_of (admitted_as n o))) (map name_of (take 31 es))
    fresh-name m =
        let r = named-entry _ es (mem-names 31 _ es m) in
        unused r.0 r.1 (ap (λ (z : Name). z.owner) (sym r.2)) (ap (λ (z : Name). z.action) (sym r.2))

pub inv-admitted : (s : Start) (o : Submission) (c : Capability) (x : Lease) (l : Log) (b : Book) → Passed o c x b
    → call_of l ≡ Some (Submit o) → observing l ≡ false → Observing s l c.resource → I s l b
    → I s (Handed (ItemObserve c.resource) ∷ l) (consumed c x o b)
unfolding seen_raise flags_of stops in_force falls_for bumps bumps_at executed reaching admissions admitting submission_in live holding receipts_kept kept_with next_number counted consumed with_replay with_leases with_sequence
inv-admitted s o c x l b p call unseen carry h =
    let f = h.0 in
    let n = f.leasing in
    let axis = c.resource in
    let v = with_sequence o.action.sequence x in
    let a : Admitted = admitted_as (next_number l) o in
    let es = orders-admitted s (executed l) (admissions l) b.replay o (next_number l) p.unused f.ordered in (
      rw (unseen, call)
          (record {
            sound = f.sound;
            own = f.own;
            config = f.config;
            capabilities = f.capabilities;
            leasing =
                record {
                  eight = length-set b.leases axis (Some v) ∙ n.eight;
                  fits = n.fits;
                  below = λ i. at_set None (IdBelow b.next_lease) b.leases axis (Some v) i (λ e. below_at _ _ x p.leased (n.below axis)) (λ m. n.below i);
                  unique = unique-same b.leases axis x v p.leased refl n.unique;
                  stands = λ i. at_set None (λ y. live i l ≡ held y) b.leases axis (Some v) i (λ e. rw e (n.stands axis ∙ ap held p.leased)) (λ m. n.stands i);
                  known = known (below_at _ _ x p.leased (n.below axis));
                  last = λ i. at-set-in None (LastIs (a ∷ admissions l)) b.leases axis (Some v) i (omega (arith, n.eight, p.inside))
                      (λ e. highest-new a (admissions l) x.id (sym p.lease) (omega (arith, p.above, last-at _ _ x p.leased (n.last axis))))
                      (λ d. older i d (get_or b.leases i None) refl (n.last i));
                  home = λ i. at_set None (OnAxis i) b.leases axis (Some v) i (λ e. home_at _ _ x p.leased (n.home axis) ∙ sym e) (λ m. n.home i);
                };
            ordered = rw f.counts.next es;
            counts = f.counts;
          }),
      carry,
      h.2,
    )
  where
    known : x.id < b.next_lease → (y : Admitted) → Mem y (admitted_as (next_number l) o ∷ admissions l) → y.submission.action.lease_id < b.next_lease
    known k y (inl e) = omega (arith, ap (λ (z : Admitted). z.submission.action.lease_id) e, p.lease)
    known k y (inr m) = h.0.leasing.known y m

    older : (i : ℕ) → i ≢ c.resource → (y : Option Lease) → get_or b.leases i None ≡ y → LastIs (admissions l) y
        → LastIs (admitted_as (next_number l) o ∷ admissions l) y
    older i n None e k = tt
    older i n (Some y) e k =
        k ∙ sym (highest-other (admitted_as (next_number l) o) (admissions l) y.id
        (λ q. n (h.0.leasing.unique i c.resource y x e p.leased (sym q ∙ sym p.lease))))

-- the second observation
pub inv-observed : (s : Start) (axis : ℕ) (l : Log) (b : Book) → observing l ≡ true → Observing s l axis → I s l b → I s (Handed (ItemObserve axis) ∷ l) b
unfolding seen_raise flags_of stops in_force falls_for bumps bumps_at executed reaching admissions admitting live holding receipts_kept kept_with next_number counted
inv-observed s axis l b seen carry h = (rw seen h.0, carry, h.2)

-- ---- an order reaches execute

mem-orders : (E : List Submission) (o : Action) → Mem o (orders E) → (x : Submission) × Mem x E × (x.action ≡ o)
mem-orders [] o m = absurd m
mem-orders (x ∷ E) o (inl e) = (x, inl refl, sym e)
mem-orders (x ∷ E) o (inr m) = let r = mem-orders E o m in (r.0, inr r.1, r.2)

-- an order that passes has not reached execute before
pub fresh : (s : Start) (o : Submission) (c : Capability) (x : Lease) (l : Log) (b : Book) → Passed o c x b → I s l b → ¬ Mem o.action (orders (executed l))
fresh s o c x l b p h m =
    let f = h.0 in
    let r = mem-orders (executed l) o.action m in
    let q = f.ordered.among r.0 r.1 in
    let same : q.0.submission.action ≡ o.action = ap (λ (y : Submission). y.action) q.2 ∙ r.2 in
    let le : q.0.submission.action.sequence ≤ highest q.0.submission.action.lease_id (admissions l) = highest-above (admissions l) q.0 q.1 in
    let id : q.0.submission.action.lease_id ≡ x.id = ap (λ (y : Action). y.lease_id) same ∙ sym p.lease in
    let le' : q.0.submission.action.sequence ≤ highest x.id (admissions l) = subst (λ n. q.0.submission.action.sequence ≤ highest n (admissions l)) id le in
    omega (arith, last-at _ _ x p.leased (f.leasing.last c.resource), p.above, ap (λ (y : Action). y.sequence) same)

pub inv-executed : (s : Start) (o : Submission) (c : ℕ) (ps : List ℤ) (l : Log) (b : Book) → call_of l ≡ Some (Submit o)
    → o.action.boot_id ≡ s.boot_id → ¬ Mem o.action (orders (executed l))
    → (a : Admitted) × Mem a (admissions l) × (a.submission ≡ o)
    → Proper s (Handed (ItemExecute c ps) ∷ l) c ps → I s l b → I s (Handed (ItemExecute c ps) ∷ l) b
unfolding seen_raise flags_of stops in_force falls_for bumps bumps_at executed reaching submission_in admissions admitting live holding receipts_kept kept_with next_number counted
inv-executed s o c ps l b call boot new admitted proper h =
    let f = h.0 in (
      rw call
          (record {
            sound = f.sound;
            own = f.own;
            config = f.config;
            capabilities = f.capabilities;
            leasing = f.leasing;
            counts = f.counts;
            ordered =
                record {
                  replay = f.ordered.replay;
                  apart = f.ordered.apart;
                  among = among;
                  home = home;
                  distinct = (new, f.ordered.distinct);
                };
          }),
      proper,
      h.2,
    )
  where
    among : (y : Submission) → Mem y (o ∷ executed l) → (a : Admitted) × Mem a (admissions l) × (a.submission ≡ y)
    among y (inl e) = (admitted.0, admitted.1, admitted.2 ∙ sym e)
    among y (inr m) = h.0.ordered.among y m

    home : (y : Action) → Mem y (orders (o ∷ executed l)) → y.boot_id ≡ s.boot_id
    home y (inl e) = ap (λ (z : Action). z.boot_id) e ∙ boot
    home y (inr m) = h.0.ordered.home y m

-- ---- the opening book

plain-call : (l : Log) → Plain l → call_of l ≡ None
unfolding call_of
plain-call [] h = refl
plain-call (Took c ∷ l) h = absurd h
plain-call (Replied r ∷ l) h = plain-call l h
plain-call (Handed (ItemObserve axis) ∷ l) h = absurd h
plain-call (Handed (ItemExecute c p) ∷ l) h = absurd h
plain-call (Handed (ItemFallback axis r) ∷ l) h = plain-call l h
plain-call (Handed (ItemRecord r) ∷ l) h = absurd h
plain-call (Ended a ∷ l) h = absurd h

pub plain-executed : (l : Log) → Plain l → executed l ≡ []
unfolding executed reaching
plain-executed [] h = refl
plain-executed (Took c ∷ l) h = absurd h
plain-executed (Replied r ∷ l) h = plain-executed l h
plain-executed (Handed (ItemObserve axis) ∷ l) h = absurd h
plain-executed (Handed (ItemExecute c p) ∷ l) h = absurd h
plain-executed (Handed (ItemFallback axis r) ∷ l) h = plain-executed l h
plain-executed (Handed (ItemRecord r) ∷ l) h = absurd h
plain-executed (Ended a ∷ l) h = absurd h

abbrev no-tenant : Option Lease
no-tenant = None

-- no lease stands in the opening book
no-lease : (n i : ℕ) → get_or (replicate n (no-tenant)) i no-tenant ≡ no-tenant
no-lease zero i = refl
no-lease (suc n) zero = refl
no-lease (suc n) (suc i) = no-lease n i

-- a startup fallback changes nothing
inv-startup : (s : Start) (axis : ℕ) (reason : Reason) (l : Log) → call_of l ≡ None → I s l (opening s)
    → I s (Handed (ItemFallback axis reason) ∷ l) (opening s)
unfolding executed reaching admissions admitting live holding receipts_kept kept_with next_number counted opening
inv-startup s axis reason l call h =
    let f = h.0 in (
      record {
        sound = f.sound;
        own = f.own;
        config = f.config;
        capabilities = f.capabilities;
        leasing = leases-live (λ i. ended (eqb axis i) (live i l) (f.leasing.stands i ∙ ap held (no-lease 8 i))) f.leasing;
        ordered = f.ordered;
        counts = f.counts;
      },
      tt,
      epochs-startup s axis reason l (opening s) call h.2,
    )
  where
    ended : (t : Bool) (o : Option Tenancy) → o ≡ None → cond t None o ≡ o
    ended true o e = sym e
    ended false o e = refl

pub inv-opening : (s : Start) (l : Log) → Plain l → refused_start s ≡ None → I s l (opening s)
unfolding executed admissions live receipts_kept next_number seen_raise flags_of bumps opening
inv-opening s [] plain e = (
  record {
    sound = sound-start s e;
    own = refl;
    config = refl;
    capabilities = refl;
    leasing =
        record {
          eight = refl;
          fits = omega arith;
          below = λ i. rw (no-lease 8 i) tt;
          unique = λ i j x y p q. absurd (none-some _ (sym (no-lease 8 i) ∙ p));
          stands = λ i. sym (ap held (no-lease 8 i));
          known = λ a m. absurd m;
          last = λ i. rw (no-lease 8 i) tt;
          home = λ i. rw (no-lease 8 i) tt;
        };
    ordered = record { replay = refl; apart = tt; among = λ x m. absurd m; home = λ o m. absurd m; distinct = tt };
    counts = record { kept = refl; next = refl; rising = λ h. record { order = tt; latest = inl refl } };
  },
  tt,
  record { in-force = refl; last-raise = refl; count = refl },
)
inv-opening s (Took c ∷ l) plain e = absurd plain
inv-opening s (Replied r ∷ l) plain e = inv-replied s l (opening s) (inv-opening s l plain e) r
inv-opening s (Handed (ItemObserve axis) ∷ l) plain e = absurd plain
inv-opening s (Handed (ItemExecute c p) ∷ l) plain e = absurd plain
inv-opening s (Handed (ItemFallback axis r) ∷ l) plain e = inv-startup s axis r l (plain-call l plain) (inv-opening s l plain e)
inv-opening s (Handed (ItemRecord r) ∷ l) plain e = absurd plain
inv-opening s (Ended a ∷ l) plain e = absurd plain

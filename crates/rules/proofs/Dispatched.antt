-- An execute item is handed out only for an admissible order, while the flags don't meet the stop mask: the book that readings see then is
-- the one in which the order was admitted, with its sequence and replay entry stored. Assumes nothing.
use Prim.Native.Nat.{ℕ, ◌<◌}
use mathlib.Core.Bool.{Bool, true, false, cond}
use mathlib.Core.List.{List, [], ◌∷◌, ◌++◌}
use mathlib.Core.Logic.{◌⊎◌, inl, inr, ◌≢◌}
use Rattle.std.specs.Prelude.{Option, Some, None}
use Rattle.std.proofs.lemmas.Option.{none-some}
use Rattle.model.proofs.Options.{some-ne-none, some-injective}
use mathlib.Core.Path.{◌≡◌, refl, sym, ap, ◌∙◌, subst}
use borrow.Author.Tests.{eqb-true, eqb-false, ne_eqb}
use lib.Bits.{bit_and}
use lib.Dec.{eqb}
use lib.IntN.{ℤ}
use Rattle.model.specs.declared.Capability.{Capability}
use Rattle.model.specs.declared.Config.{Config}
use Rattle.model.specs.declared.Lease.{Lease}
use Rattle.model.specs.declared.LeaseRequest.{LeaseRequest}
use Rattle.model.specs.declared.Observation.{Observation}
use Rattle.model.specs.declared.Reason.{Reason}
use Rattle.model.specs.declared.Renewal.{Renewal}
use Rattle.model.specs.declared.Submission.{Submission}
use Rattle.model.specs.Words.{share_no_bit}
use Rattle.rules.specs.Book.{Book, lease_at}
use Rattle.rules.specs.With.{with_leases, with_replay}
use Rattle.rules.specs.Receipts.{Progress}
use Rattle.rules.specs.Interaction.{Answer, Refused, Succeeded, Done, Observe}
use Rattle.rules.specs.Admission.{Check, first_failing, ready, with_id, order_capability, lease_for, order_lease, admission, Admits, verdict, validate}
use Rattle.rules.specs.Admissible.{Inside, Admissible}
use Rattle.rules.specs.Rules.{refresh_state, trip, meets_estop, update_state, recovered, recover_local, leased, grant, acquire, extend, renewed, renew, canceled, cancel, with_sequence, consumed, fail, stream_end, complete, verified, verify, dispatch, admit, submit}
use Rattle.rules.specs.Protocol.{Call, Tick, UpdateState, EmergencyStop, PollEstop, RecoverLocal, Acquire, Renew, Cancel, Submit, Observed, Executed, ItemObserve, ItemExecute, ItemFallback, ItemRecord, Hands, Start, Phase, Starting, Gone, Idle, Waiting, wait_book, book_in, opening, begin}
use Rattle.rules.specs.Log.{History, phase_after, output_after, Took, Replied, Handed, Ended, Log, handed, log_of, call_of, Tenancy, live}
use Rattle.rules.specs.Claim.{Carried, tenancy_in}
use Rattle.rules.specs.StopFacts.{Unready, Dispatched}
use Rattle.rules.proofs.Records.{with-named, named-with}
use Rattle.rules.proofs.Admission.{admitted-exactly}
use Rattle.rules.proofs.Safe.{Safe, Plain, SafePhase, at-wait, always}
use Rattle.rules.proofs.Keeps.{at_set}
use Rattle.rules.proofs.Turns.{newest}
use Rattle.rules.proofs.Once.{holds, only-submissions, live-lease, book-facts}
use Rattle.rules.proofs.StateFacts.{state-facts}
use Rattle.rules.proofs.Walks.{Kept, walk-record, walk-fallback, walk-trip, walk-tick, walk-sense, walk-stop, walk-poll, walk-recover, walk-reject}
use Rattle.rules.proofs.Stopped.{fails-unready, Quiet}

-- ---- the invariant

-- the order was admitted in a ready book, and the book that readings see is that one with the order's sequence and replay entry stored
record Sent (o : Submission) (b : Book) : Type 0 where
  book : Book
  ready : ¬ Unready book.state
  admissible : Admissible o book
  shown : b ≡ consumed admissible.capability admissible.lease o book

-- where the newest event is an execute item, so it was with the order in hand
abbrev AtExecute : Log → Book → Type 0
AtExecute [] b = Unit
AtExecute (Took c ∷ l) b = Unit
AtExecute (Replied r ∷ l) b = Unit
AtExecute (Handed (ItemObserve axis) ∷ l) b = Unit
AtExecute (Handed (ItemExecute c ps) ∷ l) b = (o : Submission) × (call_of l ≡ Some (Submit o)) × Sent o b
AtExecute (Handed (ItemFallback axis r) ∷ l) b = Unit
AtExecute (Handed (ItemRecord r) ∷ l) b = Unit
AtExecute (Ended a ∷ l) b = Unit

quiet_at : (l : Log) (b : Book) → Quiet l → AtExecute l b
quiet_at [] b h = tt
quiet_at (Took c ∷ l) b h = tt
quiet_at (Replied r ∷ l) b h = tt
quiet_at (Handed (ItemObserve axis) ∷ l) b h = tt
quiet_at (Handed (ItemExecute c ps) ∷ l) b h = absurd h
quiet_at (Handed (ItemFallback axis r) ∷ l) b h = tt
quiet_at (Handed (ItemRecord r) ∷ l) b h = tt
quiet_at (Ended a ∷ l) b h = tt

plain_quiet : (l : Log) → Plain l → Quiet l
plain_quiet [] h = tt
plain_quiet (Took c ∷ l) h = tt
plain_quiet (Replied r ∷ l) h = tt
plain_quiet (Handed (ItemObserve axis) ∷ l) h = h
plain_quiet (Handed (ItemExecute c ps) ∷ l) h = h
plain_quiet (Handed (ItemFallback axis r) ∷ l) h = tt
plain_quiet (Handed (ItemRecord r) ∷ l) h = tt
plain_quiet (Ended a ∷ l) h = tt

-- the readiness checks hold
is-ready : (now : ℕ) (b : Book) (cs : List Check) → first_failing (ready now b ++ cs) ≡ None → ¬ Unready b.state
is-ready now b cs e u = let f = fails-unready now b cs u in some-ne-none f.0 (sym f.1 ∙ e)

-- ---- the calls

-- a call ends anyhow
abbrev Ends : Log → Book → Answer → Type 0
Ends l b a = Unit

module _ (c : Call) where
  abbrev Within : Log → Book → Type 0
  Within l b = Quiet l × (call_of l ≡ Some c)

  within : Kept AtExecute Ends Within
  unfolding call_of
  within =
      record {
        waits = λ l b h. quiet_at l b h.0;
        ends = λ l b a o h. tt;
        replied = λ r l b h. (tt, h.1);
        falls = λ axis reason l b h. (tt, h.1);
        records = λ r l b h. (tt, h.1);
        trips = λ reason l b h. h;
        refreshes = λ l b h. h;
        ticks = λ now l b h. h;
        stamps = λ now l b h. h;
        flags = λ x l b h. h;
        bumps = λ l b h. h;
        sees = λ raised l b h. h;
        counts = λ x l b h. h;
      }

  sent-recovered : (good : Bool) (l : Log) (b : Book) → Within l b → Safe AtExecute Ends l (recovered good b)
  unfolding recovered
  sent-recovered true l b h = tt
  sent-recovered false l b h = tt

  sent-leased : (axis : ℕ) (x : Lease) (reason : Reason) (now : ℕ) (l : Log) (b : Book) → Within l b → Safe AtExecute Ends l (leased axis x reason now b)
  unfolding leased
  sent-leased axis x reason now l b h = walk-record AtExecute Ends Within within _ l b _ h (λ r l' b' h'. tt)

  sent-grant : (o : Option Reason) (r : LeaseRequest) (now : ℕ) (l : Log) (b : Book) → Within l b → Safe AtExecute Ends l (grant o r now b)
  unfolding grant
  sent-grant (Some reason) r now l b h = tt
  sent-grant None r now l b h = sent-leased r.resource _ Reason.LeaseGranted now l _ h

  sent-extend : (axis : Option ℕ) (x : Option Lease) (r : Renewal) (l : Log) (b : Book) → Within l b → Safe AtExecute Ends l (extend r axis x b)
  unfolding extend
  sent-extend None x r l b h = tt
  sent-extend (Some axis) None r l b h = tt
  sent-extend (Some axis) (Some x) r l b h = sent-leased axis _ Reason.LeaseRenewed r.now l _ h

  sent-renewed : (o : Option Reason) (r : Renewal) (l : Log) (b : Book) → Within l b → Safe AtExecute Ends l (renewed o r b)
  unfolding renewed
  sent-renewed (Some reason) r l b h = tt
  sent-renewed None r l b h = sent-extend _ _ r l b h

  sent-canceled : (axis : Option ℕ) (now : ℕ) (l : Log) (b : Book) → Within l b → Safe AtExecute Ends l (canceled axis now b)
  unfolding canceled
  sent-canceled None now l b h = tt
  sent-canceled (Some axis) now l b h = walk-fallback AtExecute Ends Within within axis Reason.Canceled now l b _ h after
    where
      after : (ok : Bool) (l' : Log) (b' : Book) → Within l' b'
          → Safe AtExecute Ends l' (cond ok (Done (refresh_state b') Succeeded) (trip Reason.Driver now b' (λ b''. Done b'' (Refused Reason.Driver))))
      after true l' b' h' = tt
      after false l' b' h' = walk-trip AtExecute Ends Within within Reason.Driver now l' b' _ h' (λ l'' b'' h''. tt)

  module _ (o : Submission) where
    sent-fail : (k : Capability) (reason : Reason) (p : Progress) (l : Log) (b : Book) → Within l b → Safe AtExecute Ends l (fail k reason p o b)
    unfolding fail
    sent-fail k reason p l b h =
        walk-record AtExecute Ends Within within _ l b _ h
        (λ r l' b' h'. walk-trip AtExecute Ends Within within reason o.now l' b' _ h' (λ l'' b'' h''. tt))

    sent-verify : (k : Capability) (end before : ℕ) (l : Log) (b : Book) → Within l b → (seen : Option Observation)
        → Safe AtExecute Ends l (verify k end before o b seen)
    unfolding verify complete
    sent-verify k end before l b h None = sent-fail k Reason.Driver _ l b h
    sent-verify k end before l b h (Some seen) = go (verified k.verification o.action.parameters seen) _
      where
        go : (t : Bool) (p : Progress) → Safe AtExecute Ends l (cond t (complete k end p o b) (fail k Reason.Verification p o b))
        go true p = walk-record AtExecute Ends Within within _ l _ _ h (λ r l' b' h'. tt)
        go false p = sent-fail k Reason.Verification p l b h

    sent-executing : (k : Capability) (end before : ℕ) (p : Progress) (l : Log) (b : Book) → call_of l ≡ Some c → (ok : Bool)
        → Safe AtExecute Ends (Replied (Executed ok) ∷ l)
        (cond ok (Observe k.resource b (verify k end before o b)) (fail k Reason.Driver p o b))
    unfolding call_of
    sent-executing k end before p l b call true = (tt, λ seen. sent-verify k end before _ b (tt, call) seen)
    sent-executing k end before p l b call false = sent-fail k Reason.Driver p _ b (tt, call)

    module _ (this : c ≡ Submit o) where
      sent-dispatch : (k : Capability) (end : ℕ) (l : Log) (b : Book) → call_of l ≡ Some c → Sent o b
          → (seen : Option Observation) → Safe AtExecute Ends (Replied (Observed seen) ∷ l) (dispatch k end o b seen)
      unfolding dispatch call_of
      sent-dispatch k end l b call sent None = sent-fail k Reason.Driver _ _ b (tt, call)
      sent-dispatch k end l b call sent (Some seen) = ((o, call ∙ ap Some this, sent), sent-executing k end seen.state _ _ b call)

      -- every check holds
      sent-admitted : (l : Log) (b : Book) → Within l b → (a : Admissible o b) → ¬ Unready b.state
          → Safe AtExecute Ends l (admit (Admits a.capability a.lease) o b)
      unfolding admit call_of
      sent-admitted l b h a ok =
          let b₁ = consumed a.capability a.lease o b in
          let sent : Sent o b₁ = record { book = b; ready = ok; admissible = a; shown = refl } in
          (tt, λ seen. sent-dispatch a.capability (stream_end a.lease o) _ b₁ h.1 sent seen)

      sent-admit : (f : Option Reason) (l : Log) (b : Book) → Within l b → first_failing (admission o b) ≡ f
          → Safe AtExecute Ends l (admit (verdict f (order_capability o b) (order_lease o b)) o b)
      unfolding admit verdict admission order_capability order_lease lease_for
      sent-admit (Some reason) l b h e = walk-reject AtExecute Ends Within within reason o l b h
      sent-admit None l b h e =
          let a = (admitted-exactly o b).0 e in
          rw (with-named a.known, a.leased) (sent-admitted l b h a (is-ready o.now b _ e))

-- ---- every history

sent-call : (l : Log) (c : Call) (b : Book) → AtExecute l b → Safe AtExecute Ends (Took c ∷ l) (begin c b)
unfolding begin update_state recover_local acquire renew cancel submit validate call_of
sent-call l (Tick now) b h = walk-tick _ _ _ (within (Tick now)) now _ b _ (tt, refl) (λ l' b' h'. tt)
sent-call l (UpdateState x now) b h =
    let t = within (UpdateState x now) in
    walk-tick _ _ _ t now _ b _ (tt, refl) (walk-sense _ _ _ t x now)
sent-call l (EmergencyStop now) b h = walk-stop _ _ _ (within (EmergencyStop now)) now _ b _ (tt, refl) (λ l' b' h'. tt)
sent-call l (PollEstop raised now) b h = walk-poll _ _ _ (within (PollEstop raised now)) raised now _ b (tt, refl)
sent-call l (RecoverLocal now) b h =
    let t = within (RecoverLocal now) in
    walk-tick _ _ _ t now _ b _ (tt, refl) (walk-recover _ _ _ t (sent-recovered (RecoverLocal now)) now)
sent-call l (Acquire r now) b h =
    walk-tick _ _ _ (within (Acquire r now)) now _ b _ (tt, refl) (λ l' b'. sent-grant (Acquire r now) _ r now l' b')
sent-call l (Renew r) b h = walk-tick _ _ _ (within (Renew r)) r.now _ b _ (tt, refl) (λ l' b'. sent-renewed (Renew r) _ r l' b')
sent-call l (Cancel owner id now) b h =
    walk-tick _ _ _ (within (Cancel owner id now)) now _ b _ (tt, refl) (λ l' b'. sent-canceled (Cancel owner id now) _ now l' b')
sent-call l (Submit o) b h =
    walk-tick _ _ _ (within (Submit o)) o.now _ b _ (tt, refl) (λ l' b' h'. sent-admit (Submit o) o refl _ l' b' h' refl)

abbrev Holds : Start → Log → Phase → Type 0
Holds s l p = SafePhase s AtExecute AtExecute Ends l p

always-sent : (s : Start) (h : History) → Holds s (log_of s h) (phase_after s h)
always-sent s h =
    always s AtExecute AtExecute Ends (λ l b a k. tt) (λ l plain e. quiet_at l (opening s) (plain_quiet l plain)) sent-call h

-- nothing but the start was logged, or it holds of a book that can be read
abbrev Readable : Log → Phase → Type 0
Readable l p = Plain l ⊎ ((b : Book) × (book_in p ≡ Some b) × AtExecute l b)

readable : (s : Start) (l : Log) (p : Phase) → Holds s l p → Readable l p
unfolding book_in
readable s l (Starting own axis rest good) h = inl h.1.0
readable s l Gone h = inl h
readable s l (Idle b) h = inr (b, refl, h)
readable s l (Waiting w) h = inr (wait_book w, refl, at-wait AtExecute Ends l w h)

-- ---- an execute item

record Executing (s : Start) (h : History) : Type 0 where
  book : Book
  shown : book_in (phase_after s h) ≡ Some book
  order : Submission
  call : call_of (log_of s h) ≡ Some (Submit order)
  sent : Sent order book

executing : (s : Start) (h : History) (c : ℕ) (ps : List ℤ) → output_after s h ≡ Hands (ItemExecute c ps) → Executing s h
unfolding call_of handed
executing s h c ps e = go (readable s (log_of s h) (phase_after s h) (always-sent s h))
  where
    n : (l : Log) × (log_of s h ≡ Handed (ItemExecute c ps) ∷ l)
    n = newest s h (Handed (ItemExecute c ps)) (ap handed e)

    go : Readable (log_of s h) (phase_after s h) → Executing s h
    go (inl plain) = absurd (subst Plain n.1 plain)
    go (inr k) =
        let x = subst (λ l. AtExecute l k.0) n.1 k.2 in
        record { book = k.0; shown = k.1; order = x.0; call = ap call_of n.1 ∙ x.1; sent = x.2 }

-- what readings see once the order is taken
lease-shown : (o : Submission) (c : Capability) (x : Lease) (b : Book) → lease_at b c.resource ≡ Some x
    → lease_at (consumed c x o b) c.resource ≡ Some (with_sequence o.action.sequence x)
unfolding consumed with_replay with_leases
lease-shown o c x b e =
    let v = with_sequence o.action.sequence x in
    at_set None (λ y. y ≡ Some v) b.leases c.resource (Some v) c.resource (λ q. refl)
    (λ m. absurd (none-some x (sym (m refl) ∙ e)))

meets : (flags : ℕ) (c : Config) → bit_and flags c.estop_mask ≢ 0 → meets_estop flags c ≡ true
unfolding meets_estop share_no_bit
meets flags c n = rw (ne_eqb (bit_and flags c.estop_mask) 0 n)

module _ (s : Start) (h : History) (c : ℕ) (ps : List ℤ) (out : output_after s h ≡ Hands (ItemExecute c ps)) (b : Book)
    (shows : book_in (phase_after s h) ≡ Some b) (k : Carried (log_of s h) c ps) where
  -- the lease that stands as the item is handed out has not expired: it is the live one
  unexpired-at : (y : Capability) (x : Lease) → with_id k.submission.action.capability s.capabilities ≡ Some y
      → lease_at b y.resource ≡ Some x → k.submission.now < x.expires_at
  unexpired-at y x known leased =
      let l = live-lease s h c ps out k in
      let same : l.capability ≡ y = some-injective _ _ (sym (with-named l.known) ∙ known) in
      let stands = ap (λ (z : Capability). live z.resource (log_of s h)) same ∙ (book-facts s h b shows).standing y.resource x leased in
      let tenancy : l.tenancy ≡ tenancy_in x = some-injective _ _ (sym l.stands ∙ stands) in
      subst (λ (z : Tenancy). k.submission.now < z.expires) tenancy l.unexpired

  -- the flags meet the stop mask only in Estopped
  unmasked-at : ¬ Unready b.state → bit_and b.flags b.config.estop_mask ≡ 0
  unmasked-at ready = go (eqb (bit_and b.flags b.config.estop_mask) 0) refl
    where
      go : (t : Bool) → eqb (bit_and b.flags b.config.estop_mask) 0 ≡ t → bit_and b.flags b.config.estop_mask ≡ 0
      go true e = eqb-true _ _ e
      go false e =
          let stopped = (state-facts s h).mask-only-estopped b shows (meets b.flags b.config (eqb-false _ _ e)) in
          absurd (ready (subst Unready (sym stopped) tt))

  dispatched : Sent k.submission b → Dispatched s (log_of s h) b c ps
  unfolding with_sequence order_capability consumed with_replay with_leases
  dispatched d =
      let a = d.admissible in
      let x = with_sequence k.submission.action.sequence a.lease in
      let base = (holds s h b shows).0 in
      let caps : d.book.capabilities ≡ s.capabilities = sym (ap (λ (y : Book). y.capabilities) d.shown) ∙ base.capabilities in
      let known = subst (λ cs. with_id k.submission.action.capability cs ≡ Some a.capability) caps (with-named a.known) in
      let leased : lease_at b a.capability.resource ≡ Some x =
      ap (λ (y : Book). lease_at y a.capability.resource) d.shown
      ∙ lease-shown k.submission a.capability a.lease d.book a.leased in
      let flags : b.flags ≡ d.book.flags = ap (λ (y : Book). y.flags) d.shown in
      let ready : ¬ Unready b.state = λ u. d.ready (subst (λ (y : Book). Unready y.state) d.shown u) in
      record {
        carried = k;
        ready = ready;
        capability = a.capability;
        known = named-with c s.capabilities a.capability (ap (λ n. with_id n s.capabilities) k.capability ∙ known);
        lease = x;
        leased = leased;
        principal = a.principal.0;
        requester = a.principal.1;
        owner = a.authority.1.0;
        named = a.authority.0;
        boot = a.boot ∙ sym (ap (λ (y : Book). y.boot_id) d.shown) ∙ base.own;
        permitted = rw flags a.flags;
        unmasked = subst (λ (y : Config). bit_and b.flags y.estop_mask ≡ 0) base.config (unmasked-at ready);
        received = a.received;
        valid = a.in-time.1;
        begun = a.not-early;
        in-time = a.in-time.0;
        unexpired = unexpired-at a.capability x known leased;
        bounds = subst (λ q. Inside a.capability.bounds q) (sym k.parameters) a.bounds.0;
        limits = subst (λ q. Inside a.lease.limits q) (sym k.parameters) a.bounds.1;
      }

submit-same : {a b : Submission} → Some (Submit a) ≡ Some (Submit b) → a ≡ b
submit-same e = cc

pub dispatch-admissible : (s : Start) (h : History) (c : ℕ) (ps : List ℤ) → output_after s h ≡ Hands (ItemExecute c ps)
    → (b : Book) × (book_in (phase_after s h) ≡ Some b) × Dispatched s (log_of s h) b c ps
dispatch-admissible s h c ps e =
    let a = executing s h c ps e in
    let k = only-submissions s h c ps e in
    let sent = subst (λ o. Sent o a.book) (submit-same (sym a.call ∙ k.call)) a.sent in
    (a.book, a.shown, dispatched s h c ps e a.book a.shown k sent)

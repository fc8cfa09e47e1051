-- Every call keeps the invariant: one lemma for each. Assumes nothing.
use Prim.Native.Nat.{ℕ, zero, suc, ◌<◌, ◌^◌}
use mathlib.Core.Bool.{Bool, true, false, cond, not, ◌&&◌, ◌||◌, false≢true}
use mathlib.Core.List.{List, [], ◌∷◌, map, reverse}
use mathlib.Core.Logic.{inl, inr, ◌≢◌}
use Rattle.std.specs.Prelude.{Option, Some, None}
use Rattle.std.proofs.lemmas.Option.{none-some}
use Rattle.model.proofs.Options.{some-injective}
use mathlib.Core.Path.{◌≡◌, refl, sym, ap, ◌∙◌, subst}
use borrow.Author.Tests.{eqb-true, eq-eqb}
use native.Mathlib.Omega.{arith}
use lib.Bits.{bit_and}
use lib.Dec.{eqb, ltb, leb}
use lib.ListN.{set, take}
use Rattle.model.specs.declared.Capability.{Capability}
use Rattle.model.specs.declared.Decision.{Decision}
use Rattle.model.specs.declared.Lease.{Lease}
use Rattle.model.specs.declared.LeaseRequest.{LeaseRequest}
use Rattle.model.specs.declared.Observation.{Observation}
use Rattle.model.specs.declared.Reason.{Reason}
use Rattle.model.specs.declared.Receipt.{Receipt}
use Rattle.model.specs.declared.Renewal.{Renewal}
use Rattle.model.specs.declared.RuntimeState.{RuntimeState}
use Rattle.model.specs.declared.RuntimeState.TheVariants as State
use Rattle.model.specs.declared.Submission.{Submission}
use Rattle.model.specs.Soundness.{axis_used}
use Rattle.model.proofs.Tests.{and_both}
use Rattle.rules.specs.Book.{Book, lease_at}
use Rattle.rules.specs.With.{with_leases, with_active, with_next_lease, with_epoch, with_flags, with_state, with_invalid_count, with_estop_seen}
use Rattle.rules.specs.Receipts.{kept, numbered, event, Progress, not_sent, order_receipt}
use Rattle.rules.specs.Interaction.{Answer, Returned, Polled, Succeeded, Leased as LeasedTo, Refused, Submitted, Done, Observe}
use Rattle.rules.specs.Admission.{first_failing, is_armed, is_estopped, is_faulted, is_stale, ready, is_free, valid_request, axes, acquire_checks, held_axis, lease_on, held_lease, with_id, order_capability, order_lease, verdict, validate, admission}
use Rattle.rules.specs.Lists.{Mem}
use Rattle.rules.specs.Rules.{used_axes, bump_epoch, record_receipt, refresh_state, trip, exhausted, meets_estop, masked, emergency_stop, poll_estop, recovered, recoveries, recover, recover_local, new_lease, granted, leased, grant, acquire, extended, extend, renewed, renew, canceled, cancel, storm, reject, consumed, stream_end, fail, complete, verified, verify, dispatch, admit, submit}
use Rattle.rules.specs.Protocol.{Call, Tick, UpdateState, EmergencyStop, PollEstop, RecoverLocal, Acquire, Renew, Cancel, Submit, Observed, Executed, Recorded, ItemObserve, ItemExecute, Start, begin}
use Rattle.rules.specs.Log.{History, phase_after, Took, Replied, Handed, Log, log_of, call_of, submission_in, reaching, executed, next_number, observing, dispatching, Admitted, admitted_as, admitting, admissions, entry_of, highest, is_control, is_grant, live, holding}
use Rattle.rules.specs.Epoch.{seen_raise, stops, updated}
use Rattle.rules.specs.Claim.{Leased, Observing, tenancy_in}
use Rattle.rules.specs.StopFacts.{Reported}
use Rattle.rules.proofs.Records.{named-with, with-named}
use Rattle.rules.proofs.Admission.{none-fails, admitted-exactly, lease-on}
use Rattle.rules.proofs.Axes.{low-axis, mem-reverse, used_low}
use Rattle.rules.proofs.Safe.{Safe, SafePhase, always}
use Rattle.rules.proofs.Keeps.{keeps-record, keeps-fallback, keeps-trip, is_ready, Guarded, Settled, Unexpired}
use Rattle.rules.proofs.Invariant.{held, LastIs, Answering, I, Proper, inv-replied, inv-refreshed, inv-took, inv-stopped, Granting, inv-granted, Renewing, inv-renewed, Passed, inv-admitted, inv-observed, fresh, inv-executed, inv-opening}
use Rattle.rules.proofs.Within.{End, InHand, in-hand, inv-ends, Doing, doing, InCall, inv-tick}
use Rattle.rules.proofs.Update.{inv-update}

module _ (s : Start) where
  -- ---- emergency_stop, poll_estop

  inv-stop : (c : Call) (now : ℕ) (l : Log) (b : Book) (a : Answer) → ((l' : Log) → Answering l' a) → InHand s c l (masked now b)
      → Safe (I s) (End s) l (emergency_stop now b (λ b'. Done b' a))
  unfolding emergency_stop
  inv-stop c now l b a carry h = keeps-trip (End s) (in-hand s c) Reason.Estop _ _ tt (λ l' b' h'. inv-ends s c a l' b' (carry l') h') l _ h

  inv-poll : (raised now : ℕ) (l : Log) (b : Book) → I s l b → Safe (I s) (End s) (Took (PollEstop raised now) ∷ l) (poll_estop raised now b)
  unfolding poll_estop call_of stops seen_raise updated with_flags with_estop_seen
  inv-poll raised now l b h = go (eqb raised b.estop_seen) refl
    where
      c : Call
      c = PollEstop raised now

      test : {t : Bool} → eqb raised b.estop_seen ≡ t → eqb raised (seen_raise l) ≡ t
      test e = rw h.2.last-raise at e

      go : (t : Bool) → eqb raised b.estop_seen ≡ t → Safe (I s) (End s) (Took c ∷ l)
          (cond t (Done b (Polled false)) (emergency_stop now (with_estop_seen raised b) (λ b'. Done b' (Polled true))))
      go true e =
          inv-ends s c (Polled false) (Took c ∷ l) b tt (inv-took s c l b (rw (test e)) (eqb-true _ _ (test e)) h, (refl, refl))
      go false e = inv-stop c now (Took c ∷ l) (with_estop_seen raised b) (Polled true) (λ l'. tt) (inv-stopped s c now l b raised (rw (test e)) refl h, (refl, refl))

  -- ---- recover_local

  inv-recovered : (c : Call) (good : Bool) (l : Log) (b : Book) → InHand s c l b → Safe (I s) (End s) l (recovered good b)
  unfolding recovered with_state with_invalid_count
  inv-recovered c true l b h = inv-ends s c Succeeded l b tt h
  inv-recovered c false l b h = inv-ends s c (Refused Reason.Driver) l b tt h

  inv-recoveries : (c : Call) (is : List ℕ) (good : Bool) (now : ℕ) (l : Log) (b : Book) → InHand s c l b → Safe (I s) (End s) l (recoveries is good now b)
  unfolding recoveries
  inv-recoveries c [] good now l b h = inv-recovered c good l b h
  inv-recoveries c (axis ∷ is) good now l b h =
      keeps-fallback (End s) (in-hand s c) axis Reason.Recovered now l b _ tt h (λ ok l' b' h'. inv-recoveries c is (good && ok) now l' b' h')

  inv-recover : (c : Call) (now : ℕ) (l : Log) (b : Book) → InHand s c l b → Safe (I s) (End s) l (recover now b)
  unfolding recover
  inv-recover c now l b h = go (meets_estop b.flags b.config) (ltb now b.last_tick || (is_stale now b || exhausted b))
    where
      go : (t u : Bool) → Safe (I s) (End s) l
          (cond t (Done b (Refused Reason.Estop)) (cond u (Done b (Refused Reason.Precondition)) (recoveries (used_axes b.capabilities) true now b)))
      go true u = inv-ends s c (Refused Reason.Estop) l b tt h
      go false true = inv-ends s c (Refused Reason.Precondition) l b tt h
      go false false = inv-recoveries c (used_axes b.capabilities) true now l b h

  -- ---- cancel

  inv-canceled : (c : Call) (axis : Option ℕ) (now : ℕ) (l : Log) (b : Book) → InHand s c l b → Safe (I s) (End s) l (canceled axis now b)
  unfolding canceled
  inv-canceled c None now l b h = inv-ends s c (Refused Reason.Authority) l b tt h
  inv-canceled c (Some axis) now l b h = keeps-fallback (End s) (in-hand s c) axis Reason.Canceled now l b _ tt h after
    where
      after : (ok : Bool) (l' : Log) (b' : Book) → InHand s c l' b'
          → Safe (I s) (End s) l' (cond ok (Done (refresh_state b') Succeeded) (trip Reason.Driver now b' (λ b''. Done b'' (Refused Reason.Driver))))
      after true l' b' h' = inv-ends s c Succeeded l' (refresh_state b') tt (inv-refreshed s l' b' h'.0, h'.1)
      after false l' b' h' =
          keeps-trip (End s) (in-hand s c) Reason.Driver now _ tt (λ l'' b'' h''. inv-ends s c (Refused Reason.Driver) l'' b'' tt h'') l' b' h'

  -- ---- acquire

  ready-state : (x : RuntimeState) → not (is_estopped x) ≡ true → not (is_faulted x) ≡ true → is_ready x ≡ true
  unfolding is_estopped is_faulted is_ready
  ready-state State.SafeIdle p q = refl
  ready-state State.Armed p q = refl
  ready-state State.Faulted p q = q
  ready-state State.Estopped p q = p

  free-none : (o : Option Lease) → is_free o ≡ true → o ≡ None
  unfolding is_free
  free-none None e = refl
  free-none (Some x) e = absurd (false≢true e)

  granting : (r : LeaseRequest) (n now : ℕ) (b : Book) → Granting
      (numbered b.next_receipt (event r.resource (new_lease r n now).id (new_lease r n now).owner Decision.Control Reason.LeaseGranted now b)) r n b.next_receipt
  unfolding numbered event is_control is_grant new_lease
  granting r n now b = record { control = refl; grant = refl; axis = refl; lease = refl; number = refl }

  -- what the checks of acquire give
  record Grantable (r : LeaseRequest) (b : Book) : Type 0 where
    ready : is_ready b.state ≡ true
    used : axis_used b.capabilities r.resource ≡ true
    free : lease_at b r.resource ≡ None

  grantable : (r : LeaseRequest) (now : ℕ) (b : Book) → first_failing (acquire_checks r now b) ≡ None → Grantable r b
  unfolding acquire_checks ready valid_request
  grantable r now b e =
      let h = none-fails (acquire_checks r now b) e in
      let rest = h.1.1.1.1 in
      record {
        ready = ready-state b.state h.0 h.1.0;
        used = (and_both (axis_used b.capabilities r.resource) _ rest.0).0;
        free = free-none _ rest.1.1.0;
      }

  inv-grant : (r : LeaseRequest) (now : ℕ) (l : Log) (b : Book) → InHand s (Acquire r now) l b → Guarded (Settled now (reverse axes)) b
      → (o : Option Reason) → first_failing (acquire_checks r now b) ≡ o → Safe (I s) (End s) l (grant o r now b)
  unfolding call_of updated grant leased record_receipt granted refresh_state with_state bump_epoch with_epoch with_leases with_next_lease
  inv-grant r now l b h settled (Some reason) e = inv-ends s (Acquire r now) (Refused reason) l b tt h
  inv-grant r now l b h settled None e =
      let g = grantable r now b e in
      let b₁ = granted (new_lease r b.next_lease now) b in
      let low = used_low s h.0.0.sound r.resource (subst (λ cs. axis_used cs r.resource ≡ true) h.0.0.capabilities g.used) in
      let x = new_lease r b.next_lease now in
      let r₁ = numbered b₁.next_receipt (event r.resource x.id x.owner Decision.Control Reason.LeaseGranted now b₁) in
      let h₁ = inv-granted s r₁ r now l b (granting r b.next_lease now b₁) low (settled g.ready).left g.free h.1.0 h.0 in
      (h₁, inv-ends s (Acquire r now) (LeasedTo x) _ (kept r₁ b₁) tt (inv-replied s _ (kept r₁ b₁) h₁ Recorded, (h.1.0, refl)))

  -- ---- renew

  renewing : (axis : ℕ) (x : Lease) (now : ℕ) (b : Book) → Renewing
      (numbered b.next_receipt (event axis x.id x.owner Decision.Control Reason.LeaseRenewed now b)) axis b.next_receipt
  unfolding numbered event is_control is_grant
  renewing axis x now b = record { control = refl; no-grant = refl; on = refl; number = refl }

  inv-extend : (r : Renewal) (axis : Option ℕ) (x : Option Lease) (l : Log) (b : Book) → lease_on axis b ≡ x → InHand s (Renew r) l b → Safe (I s) (End s) l (extend r axis x b)
  unfolding call_of updated extend leased record_receipt lease_on with_leases
  inv-extend r None x l b e h = inv-ends s (Renew r) (Refused Reason.Authority) l b tt h
  inv-extend r (Some axis) None l b e h = inv-ends s (Renew r) (Refused Reason.Authority) l b tt h
  inv-extend r (Some axis) (Some x) l b e h =
      let b₁ = with_leases (set b.leases axis (Some (extended r x))) b in
      let r₁ = numbered b₁.next_receipt (event axis (extended r x).id (extended r x).owner Decision.Control Reason.LeaseRenewed r.now b₁) in
      let h₁ = inv-renewed s r₁ axis r x l b (renewing axis (extended r x) r.now b₁) e h.1.0 h.0 in
      (h₁, inv-ends s (Renew r) (LeasedTo (extended r x)) _ (kept r₁ b₁) tt (inv-replied s _ (kept r₁ b₁) h₁ Recorded, (h.1.0, refl)))

  inv-renewal : (r : Renewal) (o : Option Reason) (l : Log) (b : Book) → InHand s (Renew r) l b → Safe (I s) (End s) l (renewed o r b)
  unfolding renewed held_lease
  inv-renewal r (Some reason) l b h = inv-ends s (Renew r) (Refused reason) l b tt h
  inv-renewal r None l b h = inv-extend r (held_axis r.owner r.lease_id b) _ l b refl h

  -- ---- submit

  rejected≢executed : Decision.Rejected ≡ Decision.Executed → ⊥
  rejected≢executed e = let z : ◌≡◌ {A = ℕ} 0 1 = cc in omega arith

  failed≢executed : Decision.Failed ≡ Decision.Executed → ⊥
  failed≢executed e = let z : ◌≡◌ {A = ℕ} 0 1 = cc in omega arith

  module _ (o : Submission) where
    -- a submission that has come so far with the driver
    abbrev Order : Bool → Log → Book → Type 0
    Order sent l b = Doing s (Submit o) sent l b

    told : (d : Decision) (c : Option Capability) (reason : Reason) (original : ℕ) (p : Progress) (n : ℕ) (b : Book)
        → (d ≡ Decision.Executed → p.dispatched ≡ true) → Reported p.dispatched (numbered n (order_receipt o c d reason original p b))
    unfolding numbered order_receipt
    told d c reason original p n b only = record { dispatched = refl; executed = only }

    -- it ends with a receipt that says so
    inv-answers : (sent : Bool) (r : Receipt) → Reported sent r → (l : Log) (b : Book) → Order sent l b → End s l b (Submitted r)
    inv-answers sent r reports l b h = inv-ends s (Submit o) (Submitted r) l b (rw h.1 reports) h.0

    inv-trips : (reason : Reason) (sent : Bool) (r : Receipt) → Reported sent r → (l : Log) (b : Book) → Order sent l b
        → Safe (I s) (End s) l (trip reason o.now b (λ b'. Done b' (Submitted r)))
    inv-trips reason sent r reports l b h =
        keeps-trip (End s) (doing s (Submit o) sent) reason o.now _ tt (inv-answers sent r reports) l b h

    inv-fail : (c : Capability) (reason : Reason) (p : Progress) (l : Log) (b : Book) → Order p.dispatched l b
        → Safe (I s) (End s) l (fail c reason p o b)
    unfolding fail order_receipt is_control
    inv-fail c reason p l b h =
        keeps-record (End s) (doing s (Submit o) p.dispatched) _ l b _ refl h
        (inv-trips reason p.dispatched _ (told Decision.Failed (Some c) reason 0 p _ b (λ e. absurd (failed≢executed e))))

    inv-storm : (r : Receipt) → Reported false r → (l : Log) (b : Book) → Order false l b → Safe (I s) (End s) l (storm o.now r b)
    unfolding storm
    inv-storm r reports l b h = go (leb b.config.invalid_limit b.invalid_count && is_armed b.state)
      where
        go : (t : Bool) → Safe (I s) (End s) l (cond t (trip Reason.InvalidStorm o.now b (λ b'. Done b' (Submitted r))) (Done b (Submitted r)))
        go true = inv-trips Reason.InvalidStorm false r reports l b h
        go false = inv-answers false r reports l b h

    inv-reject : (reason : Reason) (l : Log) (b : Book) → Order false l b → Safe (I s) (End s) l (reject reason o b)
    unfolding reject order_receipt is_control with_invalid_count
    inv-reject reason l b h =
        keeps-record (End s) (doing s (Submit o) false) _ l _ _ refl h
        (inv-storm _ (told Decision.Rejected _ reason _ not_sent _ b (λ e. absurd (rejected≢executed e))))

    inv-complete : (c : Capability) (x : ℕ) (p : Progress) (l : Log) (b : Book) → p.dispatched ≡ true → Order p.dispatched l b
        → Safe (I s) (End s) l (complete c x p o b)
    unfolding complete order_receipt is_control with_active with_invalid_count
    inv-complete c x p l b sent h =
        keeps-record (End s) (doing s (Submit o) p.dispatched) _ l _ _ refl h
        (inv-answers p.dispatched _ (told Decision.Executed (Some c) Reason.Ok 0 p _ b (λ e. sent)))

    inv-verify : (c : Capability) (x : ℕ) (before : ℕ) (l : Log) (b : Book) (seen : Option Observation) → Order true l b
        → Safe (I s) (End s) l (verify c x before o b seen)
    unfolding verify
    inv-verify c x before l b None h = inv-fail c Reason.Driver _ l b h
    inv-verify c x before l b (Some seen) h = go (verified c.verification o.action.parameters seen)
      where
        p : Progress
        p = record { dispatched = true; pre_state = before; executed_at = o.now; observed_valid = true; observed = seen.parameters; post_state = seen.state }

        go : (t : Bool) → Safe (I s) (End s) l (cond t (complete c x p o b) (fail c Reason.Verification p o b))
        go true = inv-complete c x p l b refl h
        go false = inv-fail c Reason.Verification p l b h

  -- the capability that an order names is a record of the list, with the order's id
  named : (id : ℕ) (cs : List Capability) (c : Capability) → with_id id cs ≡ Some c → (c.id ≡ id) × (axis_used cs c.resource ≡ true)
  unfolding with_id
  named id [] c e = absurd (none-some c e)
  named id (x ∷ cs) c e = go (eqb x.id id) refl e (named id cs c)
    where
      or_right : (a b : Bool) → b ≡ true → (a || b) ≡ true
      or_right true b e = refl
      or_right false b e = e

      go : (t : Bool) → eqb x.id id ≡ t → cond t (Some x) (with_id id cs) ≡ Some c
          → (with_id id cs ≡ Some c → (c.id ≡ id) × (axis_used cs c.resource ≡ true))
          → (c.id ≡ id) × ((eqb x.resource c.resource || axis_used cs c.resource) ≡ true)
      go true h e rest =
          let same : x ≡ c = some-injective x c e in (
            ap (λ (y : Capability). y.id) (sym same) ∙ eqb-true _ _ h,
            rw (eq-eqb x.resource c.resource (ap (λ (y : Capability). y.resource) same)),
          )
      go false h e rest = let k = rest e in (k.0, or_right (eqb x.resource c.resource) _ k.1)

  -- what an admission gives
  record Admitting (o : Submission) (c : Capability) (x : Lease) (b : Book) : Type 0 where
    ready : is_ready b.state ≡ true
    known : with_id o.action.capability b.capabilities ≡ Some c
    passed : Passed o c x b
    owner : x.owner ≡ o.principal
    bit : bit_and x.capabilities (2 ^ o.action.capability) ≢ 0

  not-both : (x : RuntimeState) → x ≢ State.Estopped → x ≢ State.Faulted → is_ready x ≡ true
  unfolding is_ready
  not-both State.SafeIdle p q = refl
  not-both State.Armed p q = refl
  not-both State.Faulted p q = absurd (q refl)
  not-both State.Estopped p q = absurd (p refl)

  admitting-of : (o : Submission) (c : Capability) (x : Lease) (l : Log) (b : Book) → I s l b → first_failing (admission o b) ≡ None
      → order_capability o b ≡ Some c → order_lease o b ≡ Some x → Admitting o c x b
  unfolding order_capability
  admitting-of o c x l b h e known found =
      let a = (admitted-exactly o b).0 e in
      let same-c : a.capability ≡ c = some-injective _ _ (sym (with-named a.known) ∙ known) in
      let leased : lease_at b c.resource ≡ Some x = sym (lease-on o b c known) ∙ found in
      let same-x : a.lease ≡ x =
      some-injective _ _ (sym a.leased ∙ ap (λ (d : Capability). lease_at b d.resource) same-c ∙ leased) in
      let low = used_low s h.0.sound c.resource (subst (λ cs. axis_used cs c.resource ≡ true) h.0.capabilities (named _ _ c known).1) in
      record {
        ready = not-both b.state a.not-estopped a.not-faulted;
        known = known;
        passed =
            record {
              boot = a.boot;
              inside = low;
              leased = leased;
              lease = ap (λ (y : Lease). y.id) (sym same-x) ∙ a.authority.0;
              above = subst (λ (y : Lease). y.last_sequence < o.action.sequence) same-x a.sequence;
              unused = a.unused;
            };
        owner = ap (λ (y : Lease). y.owner) (sym same-x) ∙ a.authority.1.0;
        bit = subst (λ (y : Lease). bit_and y.capabilities (2 ^ o.action.capability) ≢ 0) same-x a.authority.1.1;
      }

  unexpired-at : (now : ℕ) (y : Option Lease) (x : Lease) → y ≡ Some x → Unexpired now y → now < x.expires_at
  unfolding Unexpired
  unexpired-at now y x e h = rw e at h

  -- the principal holds the lease that the order names, by any log with the same live lease
  leased-by : (o : Submission) (c : Capability) (x : Lease) (l : Log) (b : Book) → Admitting o c x b → InCall s (Submit o) l b
      → Guarded (Settled o.now (reverse axes)) b → (l' : Log) → live c.resource l' ≡ live c.resource l → Leased s l' o
  leased-by o c x l b a h settled l' same =
      record {
        capability = c;
        known = named-with _ s.capabilities c (subst (λ cs. with_id o.action.capability cs ≡ Some c) h.0.0.0.capabilities a.known);
        tenancy = tenancy_in x;
        stands = same ∙ h.0.0.0.leasing.stands c.resource ∙ ap held a.passed.leased;
        lease = a.passed.lease;
        owner = a.owner;
        bit = a.bit;
        unexpired = unexpired-at o.now _ x a.passed.leased ((settled a.ready).fresh c.resource (mem-reverse _ axes [] (inl (low-axis _ a.passed.inside))));
      }

  -- the order in hand is the one that reaches execute
  proper : (o : Submission) (c : Capability) (x : Lease) (l : Log) (b : Book) → Admitting o c x b → InCall s (Submit o) l b
      → Guarded (Settled o.now (reverse axes)) b → (l' : Log) → call_of l' ≡ call_of l → live c.resource l' ≡ live c.resource l
      → Proper s l' c.id o.action.parameters
  proper o c x l b a h settled l' call same = (
    record { submission = o; call = call ∙ h.0.1.0; capability = (named _ _ c a.known).0; parameters = refl },
    leased-by o c x l b a h settled l' same,
  )

  -- an entry of the last admitted is an entry of the replay ring
  mem-entry : (n : ℕ) (y : Admitted) (A : List Admitted) → Mem y (take n A) → Mem (entry_of y) (take n (map entry_of A))
  mem-entry zero y A m = absurd m
  mem-entry (suc n) y [] m = absurd m
  mem-entry (suc n) y (z ∷ A) (inl e) = inl (ap entry_of e)
  mem-entry (suc n) y (z ∷ A) (inr m) = inr (mem-entry n y A m)

  last_of : (A : List Admitted) (y : Option Lease) (x : Lease) → y ≡ Some x → LastIs A y → x.last_sequence ≡ highest x.id A
  last_of A y x e h = rw e at h

  observing-first : (o : Submission) (c : Capability) (x : Lease) (l : Log) (b : Book) → Admitting o c x b → InCall s (Submit o) l b
      → Guarded (Settled o.now (reverse axes)) b → Observing s l c.resource
  observing-first o c x l b a h settled =
      record {
        submission = o;
        call = h.0.1.0;
        capability = c;
        known = named-with _ s.capabilities c (subst (λ cs. with_id o.action.capability cs ≡ Some c) h.0.0.0.capabilities a.known);
        own = refl;
        first = λ e.
            record {
              leased = leased-by o c x l b a h settled l refl;
              sequence =
                  subst (λ n. highest n (admissions l) < o.action.sequence) a.passed.lease
                  (subst (λ n. n < o.action.sequence) (last_of (admissions l) _ x a.passed.leased (h.0.0.0.leasing.last c.resource)) a.passed.above);
              unused = λ y m p q.
                  a.passed.unused (entry_of y) (subst (λ es. Mem (entry_of y) es) (sym h.0.0.0.ordered.replay) (mem-entry 32 y (admissions l) m)) p q;
            };
      }

  inv-executing : (o : Submission) (c : Capability) (x : ℕ) (before : ℕ) (p : Progress) (l : Log) (b : Book) → p.dispatched ≡ true → Order o true l b → observing l ≡ true
      → with_id o.action.capability s.capabilities ≡ Some c → (ok : Bool)
      → Safe (I s) (End s) (Replied (Executed ok) ∷ l) (cond ok (Observe c.resource b (verify c x before o b)) (fail c Reason.Driver p o b))
  unfolding call_of observing dispatching updated
  inv-executing o c x before p l b sent h seen known false =
      inv-fail o c Reason.Driver p (Replied (Executed false) ∷ l) b (rw sent ((doing s (Submit o) true).replied _ l b h))
  inv-executing o c x before p l b sent h seen known true =
      let l₁ : Log = Replied (Executed true) ∷ l in
      let carry : Observing s l₁ c.resource =
      record { submission = o; call = h.0.1.0; capability = c; known = named-with _ s.capabilities c known; own = refl; first = λ e. absurd (false≢true (sym e ∙ seen)) } in
      let h₁ = inv-observed s c.resource l₁ b seen carry (inv-replied s l b h.0.0 (Executed true)) in
      (h₁, λ v. inv-verify o c x before _ b v ((inv-replied s _ b h₁ (Observed v), (h.0.1.0, refl)), h.1))

  inv-dispatch : (o : Submission) (c : Capability) (x : Lease) (l : Log) (b : Book) → Admitting o c x b → InCall s (Submit o) l b
      → Guarded (Settled o.now (reverse axes)) b → (seen : Option Observation) → I s (Handed (ItemObserve c.resource) ∷ l) (consumed c x o b)
      → Safe (I s) (End s) (Replied (Observed seen) ∷ (Handed (ItemObserve c.resource) ∷ l)) (dispatch c (stream_end x o) o (consumed c x o b) seen)
  unfolding dispatch call_of updated observing dispatching executed reaching admissions admitting submission_in live holding
  inv-dispatch o c x l b a h settled None h₁ =
      inv-fail o c _ not_sent _ (consumed c x o b) ((inv-replied s _ (consumed c x o b) h₁ (Observed None), (h.0.1.0, refl)), h.1.0)
  inv-dispatch o c x l b a h settled (Some seen) h₁ =
      let b₁ = consumed c x o b in
      let l₂ : Log = Replied (Observed (Some seen)) ∷ (Handed (ItemObserve c.resource) ∷ l) in
      let h₂ = inv-replied s _ b₁ h₁ (Observed (Some seen)) in
      let l₃ : Log = Handed (ItemExecute c.id o.action.parameters) ∷ l₂ in
      let admits : (y : Admitted) × Mem y (admissions l₂) × (y.submission ≡ o) = rw (h.1.1, h.0.1.0) (admitted_as (next_number l) o, inl refl, refl) in
      let h₃ =
      inv-executed s o c.id o.action.parameters l₂ b₁ h.0.1.0 (a.passed.boot ∙ h.0.0.0.own) (fresh s o c x l b a.passed h.0.0) admits
      (proper o c x l b a h settled l₃ refl refl) h₂ in (
        h₃,
        inv-executing o c (stream_end x o) seen.state _ l₃ b₁ refl ((h₃, (h.0.1.0, refl)), refl) refl
            (subst (λ cs. with_id o.action.capability cs ≡ Some c) h.0.0.0.capabilities a.known),
      )

  inv-verdict : (o : Submission) (r : Option Reason) (c : Option Capability) (x : Option Lease) (l : Log) (b : Book)
      → first_failing (admission o b) ≡ r → order_capability o b ≡ c → order_lease o b ≡ x → InCall s (Submit o) l b
      → Guarded (Settled o.now (reverse axes)) b → Safe (I s) (End s) l (admit (verdict r c x) o b)
  unfolding admit verdict
  inv-verdict o (Some reason) c x l b e known found h settled = inv-reject o reason l b (h.0, h.1.0)
  inv-verdict o None None x l b e known found h settled = inv-reject o Reason.UnknownCapability l b (h.0, h.1.0)
  inv-verdict o None (Some c) None l b e known found h settled = inv-reject o Reason.Authority l b (h.0, h.1.0)
  inv-verdict o None (Some c) (Some x) l b e known found h settled =
      let a = admitting-of o c x l b h.0.0 e known found in
      let h₁ = inv-admitted s o c x l b a.passed h.0.1.0 h.1.1 (observing-first o c x l b a h settled) h.0.0 in
      (h₁, λ seen. inv-dispatch o c x l b a h settled seen h₁)

  -- ---- the nine calls

  inv-call : (l : Log) (c : Call) (b : Book) → I s l b → Safe (I s) (End s) (Took c ∷ l) (begin c b)
  unfolding begin recover_local acquire renew cancel submit validate call_of stops seen_raise updated with_flags with_estop_seen
  inv-call l (Tick now) b h =
      inv-tick s (Tick now) now l b _ refl refl (λ n. refl) h (λ l' b' h' settled. inv-ends s (Tick now) Returned l' b' tt h'.0)
  inv-call l (UpdateState flags now) b h = inv-update s flags now l b h
  inv-call l (EmergencyStop now) b h =
      inv-stop (EmergencyStop now) now _ b Returned (λ l'. tt) (inv-stopped s (EmergencyStop now) now l b b.estop_seen refl h.2.last-raise h, (refl, refl))
  inv-call l (PollEstop raised now) b h = inv-poll raised now l b h
  inv-call l (RecoverLocal now) b h =
      inv-tick s (RecoverLocal now) now l b _ refl refl (λ n. refl) h (λ l' b' h' settled. inv-recover _ now l' b' h'.0)
  inv-call l (Acquire r now) b h =
      inv-tick s (Acquire r now) now l b _ refl refl (λ n. refl) h
      (λ l' b' h' settled. inv-grant r now l' b' h'.0 settled (first_failing (acquire_checks r now b')) refl)
  inv-call l (Renew r) b h =
      inv-tick s (Renew r) r.now l b _ refl refl (λ n. refl) h (λ l' b' h' settled. inv-renewal r _ l' b' h'.0)
  inv-call l (Cancel owner id now) b h =
      inv-tick s (Cancel owner id now) now l b _ refl refl (λ n. refl) h (λ l' b' h' settled. inv-canceled _ _ now l' b' h'.0)
  inv-call l (Submit o) b h =
      inv-tick s (Submit o) o.now l b _ refl refl (λ n. refl) h
      (λ l' b' h' settled. inv-verdict o _ _ _ l' b' refl refl refl h' settled)

  pub invariant : (h : History) → SafePhase s (I s) (I s) (End s) (log_of s h) (phase_after s h)
  invariant h = always s (I s) (I s) (End s) (λ l b a k. k) (inv-opening s) inv-call h

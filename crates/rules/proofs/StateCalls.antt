-- Every call keeps the state's facts, and none answers 18. Assumes nothing.
use Prim.Native.Nat.{ℕ, ◌≤◌}
use mathlib.Core.Bool.{Bool, true, false, cond, not, ◌&&◌, ◌||◌, true≢false, false≢true}
use mathlib.Core.List.{List, [], ◌∷◌, ◌++◌}
use mathlib.Core.Logic.{◌≢◌}
use Rattle.std.specs.Prelude.{Option, Some, None}
use Rattle.std.proofs.lemmas.Option.{none-some}
use Rattle.model.proofs.Options.{some-injective}
use mathlib.Core.Path.{◌≡◌, refl, sym, ap, ◌∙◌, subst}
use native.Mathlib.Omega.{arith}
use borrow.Author.Tests.{le-leb}
use lib.Dec.{eqb, ltb, leb}
use Rattle.model.specs.declared.Capability.{Capability}
use Rattle.model.specs.declared.Lease.{Lease}
use Rattle.model.specs.declared.LeaseRequest.{LeaseRequest}
use Rattle.model.specs.declared.Observation.{Observation}
use Rattle.model.specs.declared.Reason.{Reason}
use Rattle.model.specs.declared.Receipt.{Receipt}
use Rattle.model.specs.declared.Renewal.{Renewal}
use Rattle.model.specs.declared.RuntimeState.{RuntimeState}
use Rattle.model.specs.declared.RuntimeState.TheVariants as State
use Rattle.model.specs.declared.Submission.{Submission}
use Rattle.model.specs.Lists.{all}
use Rattle.model.specs.Reasons.{number}
use Rattle.model.specs.Soundness.{axis_used}
use Rattle.model.specs.Words.{permits}
use Rattle.model.proofs.Tests.{and_both}
use Rattle.rules.specs.Book.{Book, active_at}
use Rattle.rules.specs.With.{with_active, with_replay, with_epoch, with_flags, with_state_at, with_last_tick, with_state, with_invalid_count, with_estop_seen}
use Rattle.rules.specs.Receipts.{is_rejected, numbered, event, Progress, not_sent, order_receipt}
use Rattle.rules.specs.Interaction.{Answer, Returned, Polled, Succeeded, Leased, Refused, Submitted, Interaction, Done, Observe}
use Rattle.rules.specs.Admission.{Check, check, first_failing, holds_of, is_armed, is_estopped, is_faulted, is_stale, ready, valid_request, axes, acquire_checks, renew_checks, held_axis, lease_on, held_lease, order_capability, order_lease, verdict, validate, admission}
use Rattle.rules.specs.Rules.{used_axes, bump_epoch, refresh_state, tripped, trip, fallback_or_trip, exhausted, preconditions, meets_estop, flagged, new_flags, sense, update_state, stop_time, masked, emergency_stop, poll_estop, recovered, recoveries, recover, recover_local, new_lease, leased, grant, acquire, extended, extend, renewed, renew, canceled, cancel, storm, reject, with_sequence, consumed, fail, stream_end, complete, verified, verify, dispatch, admit, submit}
use Rattle.rules.specs.Protocol.{Call, Tick, UpdateState, EmergencyStop, PollEstop, RecoverLocal, Acquire, Renew, Cancel, Submit, Executed, ItemExecute, Start, begin}
use Rattle.rules.specs.Log.{Took, Replied, Handed, Log}
use Rattle.rules.specs.StateFacts.{NoLease}
use Rattle.rules.proofs.Admission.{none-fails, lease-on}
use Rattle.rules.proofs.Safe.{Safe}
use Rattle.rules.proofs.Keeps.{is_ready}
use Rattle.rules.proofs.StateBook.{ReachedIn, Good, Calm, Tidy, calm-cleared, calm-kept, good-tripped, tidy-kept, tidy-refreshed, tidy-down, base-ticked, tidy-stamped, good-bumped, good-marked, good-unmarked, tidy-emptied, tidy-granted, tidy-replaced, OnlyOn, only-used, only_none}
use Rattle.rules.proofs.StateRules.{NoClock, no-clock, Seen, Steady, untouched, after-record, after-fallback, after_one, after-trip, after-fallback-or-trip, after-tick}

-- ---- reasons other than 18

abbrev is_other : Reason → Bool
is_other reason = not (eqb (number reason) (number Reason.Clock))

other : (reason : Reason) → is_other reason ≡ true → reason ≢ Reason.Clock
other reason h e = false≢true (sym (ap is_other e) ∙ h)

abbrev others : List Check → Bool
others cs = all (λ c. is_other c.reason) cs

first-other : (cs : List Check) (reason : Reason) → others cs ≡ true → first_failing cs ≡ Some reason → is_other reason ≡ true
unfolding first_failing
first-other [] reason h e = absurd (none-some reason e)
first-other (c ∷ cs) reason h e = let k = and_both (is_other c.reason) (others cs) h in go c.holds e k.0 (first-other cs reason k.1)
  where
    go : (t : Bool) → cond t (first_failing cs) (Some c.reason) ≡ Some reason → is_other c.reason ≡ true
        → (first_failing cs ≡ Some reason → is_other reason ≡ true) → is_other reason ≡ true
    go true e k rest = rest e
    go false e k rest = subst (λ x. is_other x ≡ true) (some-injective _ _ e) k

-- where the last tick is the time of the call, or the runtime is not ready, readiness fails for another reason
ready-other : (now : ℕ) (b : Book) (rest : List Check) (reason : Reason) → (is_ready b.state ≡ true → b.last_tick ≡ now) → others rest ≡ true
    → first_failing (ready now b ++ rest) ≡ Some reason → is_other reason ≡ true
unfolding ready first_failing is_estopped is_faulted is_ready
ready-other now b rest reason clock o = go b.state refl
  where
    later : List Check
    later = check (not (is_stale now b)) Reason.StateStale ∷ rest

    passed : b.last_tick ≡ now → cond (leb b.last_tick now) (first_failing later) (Some Reason.Clock) ≡ Some reason → is_other reason ≡ true
    passed e h = first-other later reason o (rw (le-leb b.last_tick now (omega arith)) at h)

    go : (x : RuntimeState) → b.state ≡ x
        → cond (not (is_estopped x)) (cond (not (is_faulted x)) (cond (leb b.last_tick now) (first_failing later) (Some Reason.Clock)) (Some Reason.Faulted)) (Some Reason.Estop)
        ≡ Some reason → is_other reason ≡ true
    go State.SafeIdle e h = passed (clock (rw e)) h
    go State.Armed e h = passed (clock (rw e)) h
    go State.Faulted e h = subst (λ x. is_other x ≡ true) (some-injective _ _ h) refl
    go State.Estopped e h = subst (λ x. is_other x ≡ true) (some-injective _ _ h) refl

-- ---- what a call ends in

-- no refusal with 18, and no receipt of an order rejected with 18
abbrev pub Fair : Answer → Type 0
Fair Returned = Unit
Fair (Polled new) = Unit
Fair Succeeded = Unit
Fair (Leased l) = Unit
Fair (Refused reason) = reason ≢ Reason.Clock
Fair (Submitted r) = NoClock r.decision r.reason

module _ (s : Start) where
  abbrev pub End : Log → Book → Answer → Type 0
  End l b a = Tidy s b × Fair a

  -- nothing more to keep
  abbrev Any : Book → Type 0
  Any b = Unit

  any : Steady Any
  any = untouched (λ time flags config. Unit)

  -- a call that ends in a trip
  end-tripped : (reason : Reason) (now : ℕ) (l : Log) (b : Book) (a : Answer) → Fair a → Good s (with_state (tripped reason b.state) b)
      → Safe (Seen s) End l (trip reason now b (λ b'. Done b' a))
  end-tripped reason now l b a fair h = after-trip s End Any any reason now l b _ h tt (λ l' b' c d k. (tidy-down s b' c d, fair))

  end-trip : (reason : Reason) (now : ℕ) (l : Log) (b : Book) (a : Answer) → Fair a → Good s b → Safe (Seen s) End l (trip reason now b (λ b'. Done b' a))
  end-trip reason now l b a fair h = end-tripped reason now l b a fair (good-tripped s reason b h)

  -- ---- update_state

  end-preconditions : (is : List ℕ) (now : ℕ) (l : Log) (b : Book) (next : Book → Interaction) → Calm s b × Any b
      → ((l' : Log) (b' : Book) → Calm s b' × Any b' → Safe (Seen s) End l' (next b')) → Safe (Seen s) End l (preconditions is now b next)
  unfolding preconditions
  end-preconditions [] now l b next h f = f l b h
  end-preconditions (axis ∷ is) now l b next h f =
      go (holds_of (active_at b axis) (λ a. not (permits a.capability b.flags))) (λ l' b' h'. end-preconditions is now l' b' next h' f)
    where
      go : (t : Bool) → ((l' : Log) (b' : Book) → Calm s b' × Any b' → Safe (Seen s) End l' (preconditions is now b' next))
          → Safe (Seen s) End l (cond t (fallback_or_trip axis Reason.Precondition now b (λ b'. preconditions is now b' next)) (preconditions is now b next))
      go true rest = after-fallback-or-trip s End Any any axis Reason.Precondition now l b _ h rest
      go false rest = rest l b h

  end-new-flags : (flags now : ℕ) (l : Log) (b : Book) → Tidy s b → Safe (Seen s) End l (new_flags flags now b)
  unfolding new_flags flagged with_flags bump_epoch with_epoch with_state
  end-new-flags flags now l b h = go (meets_estop flags b.config) refl
    where
      go : (t : Bool) → meets_estop flags b.config ≡ t → Safe (Seen s) End l
          (cond t (trip Reason.Estop now (flagged flags b) (λ b''. Done b'' Returned))
          (preconditions axes now (flagged flags b) (λ b''. Done (refresh_state b'') Returned)))
      go true e =
          end-tripped Reason.Estop now l (flagged flags b) Returned tt
          (good-bumped s (with_state (tripped Reason.Estop b.state) (with_flags flags b)) (good-marked s flags b h.0.0.0))
      go false e =
          end-preconditions axes now l (flagged flags b) _
          ((good-bumped s (with_flags flags b) (good-unmarked s flags b e h.0.0), h.0.1), tt)
          (λ l' b' h'. (tidy-refreshed s b' h'.0.0.0 h'.0.1, tt))

  end-sense : (flags now : ℕ) (l : Log) (b : Book) → Tidy s b → ReachedIn now b → Safe (Seen s) End l (sense flags now b)
  unfolding sense
  end-sense flags now l b h reached = go (ltb now b.last_tick) (eqb flags b.flags)
    where
      stamped : Tidy s (with_state_at now b)
      stamped = tidy-stamped s now b reached h

      go : (t u : Bool) → Safe (Seen s) End l
          (cond t (Done b Returned) (cond u (Done (with_state_at now b) Returned) (new_flags flags now (with_state_at now b))))
      go true u = (h, tt)
      go false true = (stamped, tt)
      go false false = end-new-flags flags now l (with_state_at now b) stamped

  -- ---- emergency_stop, poll_estop

  not-before : (now : ℕ) (b : Book) → b.last_tick ≤ stop_time now b
  unfolding stop_time
  not-before now b = omega arith

  end-stop : (now : ℕ) (l : Log) (b : Book) (a : Answer) → Fair a → Tidy s b → Safe (Seen s) End l (emergency_stop now b (λ b'. Done b' a))
  unfolding emergency_stop masked with_last_tick with_flags
  end-stop now l b a fair h =
      let b' = with_last_tick (stop_time now b) b in
      end-tripped Reason.Estop (stop_time now b) l (masked now b) a fair (good-marked s _ b' (base-ticked s _ b (not-before now b) h.0.0.0))

  end-poll : (raised now : ℕ) (l : Log) (b : Book) → Tidy s b → Safe (Seen s) End l (poll_estop raised now b)
  unfolding poll_estop with_estop_seen
  end-poll raised now l b h = go (eqb raised b.estop_seen)
    where
      go : (t : Bool) → Safe (Seen s) End l
          (cond t (Done b (Polled false)) (emergency_stop now (with_estop_seen raised b) (λ b'. Done b' (Polled true))))
      go true = (h, tt)
      go false = end-stop now l (with_estop_seen raised b) (Polled true) tt h

  -- ---- recover_local

  -- while it falls back, no bit of the stop mask stands in the flags
  abbrev Clear : Book → Type 0
  Clear b = meets_estop b.flags b.config ≡ false

  clear : Steady Clear
  clear = untouched (λ time flags config. meets_estop flags config ≡ false)

  end-recovered : (good : Bool) (l : Log) (b : Book) → Good s b × Clear b → NoLease b → Safe (Seen s) End l (recovered good b)
  unfolding recovered with_invalid_count is_armed
  end-recovered true l b h empty = (tidy-emptied s State.SafeIdle b refl (λ e. absurd (true≢false (sym e ∙ h.1))) h.0.0 empty, tt)
  end-recovered false l b h empty =
      (tidy-emptied s State.Faulted b refl (λ e. absurd (true≢false (sym e ∙ h.1))) h.0.0 empty, other Reason.Driver refl)

  end-recoveries : (is : List ℕ) (good : Bool) (now : ℕ) (l : Log) (b : Book) → Good s b × Clear b → OnlyOn is b → Safe (Seen s) End l (recoveries is good now b)
  unfolding recoveries
  end-recoveries [] good now l b h on = end-recovered good l b h (only_none b on)
  end-recoveries (axis ∷ is) good now l b h on =
      after_one s End Clear clear axis is Reason.Recovered now l b _ h on (λ ok l' b' h' on'. end-recoveries is (good && ok) now l' b' h' on')

  end-recover : (now : ℕ) (l : Log) (b : Book) → Tidy s b → Safe (Seen s) End l (recover now b)
  unfolding recover
  end-recover now l b h = go (meets_estop b.flags b.config) (ltb now b.last_tick || (is_stale now b || exhausted b)) refl
    where
      go : (t u : Bool) → meets_estop b.flags b.config ≡ t → Safe (Seen s) End l
          (cond t (Done b (Refused Reason.Estop)) (cond u (Done b (Refused Reason.Precondition)) (recoveries (used_axes b.capabilities) true now b)))
      go true u e = (h, other Reason.Estop refl)
      go false true e = (h, other Reason.Precondition refl)
      go false false e = end-recoveries (used_axes b.capabilities) true now l b (h.0.0, e) (only-used s b h.0.0.0)

  -- ---- cancel

  end-canceled : (axis : Option ℕ) (now : ℕ) (l : Log) (b : Book) → Tidy s b → Safe (Seen s) End l (canceled axis now b)
  unfolding canceled
  end-canceled None now l b h = (h, other Reason.Authority refl)
  end-canceled (Some axis) now l b h = after-fallback s End (Calm s) (λ b' k. k.0) (calm-kept s) axis Reason.Canceled now l b _ (calm-cleared s axis b h.0) after
    where
      after : (ok : Bool) (l' : Log) (b' : Book) → Calm s b'
          → Safe (Seen s) End l' (cond ok (Done (refresh_state b') Succeeded) (trip Reason.Driver now b' (λ b''. Done b'' (Refused Reason.Driver))))
      after true l' b' h' = (tidy-refreshed s b' h'.0.0 h'.1, tt)
      after false l' b' h' = end-trip Reason.Driver now l' b' (Refused Reason.Driver) (other Reason.Driver refl) h'.0

  -- ---- acquire, renew

  -- what a tick leaves, as far as readiness asks
  abbrev OnTime : ℕ → Book → Type 0
  OnTime now b = is_ready b.state ≡ true → b.last_tick ≡ now

  ready-state : (x : RuntimeState) → not (is_estopped x) ≡ true → not (is_faulted x) ≡ true → is_ready x ≡ true
  unfolding is_estopped is_faulted is_ready
  ready-state State.SafeIdle p q = refl
  ready-state State.Armed p q = refl
  ready-state State.Faulted p q = q
  ready-state State.Estopped p q = p

  -- the checks of acquire ask for a runtime that is ready, and a used axis
  grantable : (r : LeaseRequest) (now : ℕ) (b : Book) → first_failing (acquire_checks r now b) ≡ None
      → (is_ready b.state ≡ true) × (axis_used b.capabilities r.resource ≡ true)
  unfolding acquire_checks ready valid_request
  grantable r now b e =
      let h = none-fails (acquire_checks r now b) e in
      (ready-state b.state h.0 h.1.0, (and_both (axis_used b.capabilities r.resource) _ h.1.1.1.1.0).0)

  end-leased : (axis : ℕ) (x : Lease) (reason : Reason) (now : ℕ) (l : Log) (b : Book) → Tidy s b → Safe (Seen s) End l (leased axis x reason now b)
  unfolding leased event is_rejected
  end-leased axis x reason now l b h =
      after-record s End (Tidy s) (λ b' k. k.0.0) (tidy-kept s) _ l b _ (no-clock _ _ refl) h (λ l' b' h'. (h', tt))

  end-grant : (r : LeaseRequest) (now : ℕ) (l : Log) (b : Book) → Tidy s b → OnTime now b → (o : Option Reason) → first_failing (acquire_checks r now b) ≡ o
      → Safe (Seen s) End l (grant o r now b)
  unfolding grant acquire_checks new_lease
  end-grant r now l b h time (Some reason) e = (h, other reason (ready-other now b _ reason time refl e))
  end-grant r now l b h time None e =
      let g = grantable r now b e in
      let on = subst (λ cs. axis_used cs r.resource ≡ true) h.0.0.0.capabilities g.1 in
      end-leased r.resource _ Reason.LeaseGranted now l _ (tidy-granted s (new_lease r b.next_lease now) b g.0 on h.0.0.0)

  end-extend : (r : Renewal) (axis : Option ℕ) (x : Option Lease) (l : Log) (b : Book) → lease_on axis b ≡ x → Tidy s b → Safe (Seen s) End l (extend r axis x b)
  unfolding extend lease_on
  end-extend r None x l b e h = (h, other Reason.Authority refl)
  end-extend r (Some axis) None l b e h = (h, other Reason.Authority refl)
  end-extend r (Some axis) (Some x) l b e h =
      end-leased axis _ Reason.LeaseRenewed r.now l _ (tidy-replaced s axis x (extended r x) b e h)

  end-renewed : (r : Renewal) (l : Log) (b : Book) → Tidy s b → OnTime r.now b → (o : Option Reason) → first_failing (renew_checks r b) ≡ o
      → Safe (Seen s) End l (renewed o r b)
  unfolding renewed renew_checks held_lease
  end-renewed r l b h time (Some reason) e = (h, other reason (ready-other r.now b _ reason time refl e))
  end-renewed r l b h time None e = end-extend r (held_axis r.owner r.lease_id b) _ l b refl h

  -- ---- submit

  -- the receipt of an admitted order: Failed, or Executed
  end-fail : (o : Submission) (c : Capability) (reason : Reason) (p : Progress) (l : Log) (b : Book) → Tidy s b → Safe (Seen s) End l (fail c reason p o b)
  unfolding fail order_receipt numbered is_rejected
  end-fail o c reason p l b h =
      after-record s End (Tidy s) (λ b' k. k.0.0) (tidy-kept s) _ l b _ (no-clock _ _ refl) h
      (λ l' b' h'. end-trip reason o.now l' b' (Submitted _) (no-clock _ _ refl) h'.0.0)

  end-complete : (o : Submission) (c : Capability) (end : ℕ) (p : Progress) (l : Log) (b : Book) → Tidy s b → Safe (Seen s) End l (complete c end p o b)
  unfolding complete order_receipt numbered is_rejected with_active with_invalid_count
  end-complete o c end p l b h =
      after-record s End (Tidy s) (λ b' k. k.0.0) (tidy-kept s) _ l _ _ (no-clock _ _ refl) h (λ l' b' h'. (h', no-clock _ _ refl))

  end-storm : (now : ℕ) (r : Receipt) (l : Log) (b : Book) → NoClock r.decision r.reason → Tidy s b → Safe (Seen s) End l (storm now r b)
  unfolding storm
  end-storm now r l b n h = go (leb b.config.invalid_limit b.invalid_count && is_armed b.state)
    where
      go : (t : Bool) → Safe (Seen s) End l (cond t (trip Reason.InvalidStorm now b (λ b'. Done b' (Submitted r))) (Done b (Submitted r)))
      go true = end-trip Reason.InvalidStorm now l b (Submitted r) n h.0.0
      go false = (h, n)

  end-reject : (o : Submission) (reason : Reason) (l : Log) (b : Book) → is_other reason ≡ true → Tidy s b → Safe (Seen s) End l (reject reason o b)
  unfolding reject order_receipt numbered with_invalid_count
  end-reject o reason l b n h =
      after-record s End (Tidy s) (λ b' k. k.0.0) (tidy-kept s) _ l _ _ (λ e. other reason n) h (λ l' b' h'. end-storm o.now _ l' b' (λ e. other reason n) h')

  end-verify : (o : Submission) (c : Capability) (end before : ℕ) (l : Log) (b : Book) (seen : Option Observation) → Tidy s b
      → Safe (Seen s) End l (verify c end before o b seen)
  unfolding verify
  end-verify o c end before l b None h = end-fail o c Reason.Driver _ l b h
  end-verify o c end before l b (Some seen) h = go (verified c.verification o.action.parameters seen)
    where
      p : Progress
      p = record { dispatched = true; pre_state = before; executed_at = o.now; observed_valid = true; observed = seen.parameters; post_state = seen.state }

      go : (t : Bool) → Safe (Seen s) End l (cond t (complete c end p o b) (fail c Reason.Verification p o b))
      go true = end-complete o c end p l b h
      go false = end-fail o c Reason.Verification p l b h

  end-dispatch : (o : Submission) (c : Capability) (end : ℕ) (l : Log) (b : Book) (seen : Option Observation) → Tidy s b
      → Safe (Seen s) End l (dispatch c end o b seen)
  unfolding dispatch
  end-dispatch o c end l b None h = end-fail o c _ not_sent l b h
  end-dispatch o c end l b (Some seen) h = ((h.0.0, tt), go)
    where
      p : Progress
      p = record { dispatched = true; pre_state = seen.state; executed_at = 0; observed_valid = false; observed = not_sent.observed; post_state = 0 }

      go : (ok : Bool) → Safe (Seen s) End (Replied (Executed ok) ∷ (Handed (ItemExecute c.id o.action.parameters) ∷ l))
          (cond ok (Observe c.resource b (verify c end seen.state o b)) (fail c Reason.Driver p o b))
      go true = ((h.0.0, tt), λ v. end-verify o c end seen.state _ b v h)
      go false = end-fail o c Reason.Driver p _ b h

  end-verdict : (o : Submission) (r : Option Reason) (c : Option Capability) (x : Option Lease) (l : Log) (b : Book)
      → first_failing (admission o b) ≡ r → order_capability o b ≡ c → order_lease o b ≡ x → Tidy s b → OnTime o.now b
      → Safe (Seen s) End l (admit (verdict r c x) o b)
  unfolding admit verdict admission consumed with_replay
  end-verdict o (Some reason) c x l b e known held h time = end-reject o reason l b (ready-other o.now b _ reason time refl e) h
  end-verdict o None None x l b e known held h time = end-reject o Reason.UnknownCapability l b refl h
  end-verdict o None (Some c) None l b e known held h time = end-reject o Reason.Authority l b refl h
  end-verdict o None (Some c) (Some x) l b e known held h time =
      let h' = tidy-replaced s c.resource x (with_sequence o.action.sequence x) b (sym (lease-on o b c known) ∙ held) h in
      ((h'.0.0, tt), λ seen. end-dispatch o c (stream_end x o) _ (consumed c x o b) seen h')

  -- ---- the nine calls

  pub end-call : (l : Log) (c : Call) (b : Book) → Tidy s b → Safe (Seen s) End (Took c ∷ l) (begin c b)
  unfolding begin update_state recover_local acquire renew cancel submit validate
  end-call l (Tick now) b h = after-tick s End now _ b _ h (λ l' b' h' k. (h', tt))
  end-call l (UpdateState flags now) b h = after-tick s End now _ b _ h (λ l' b' h' k. end-sense flags now l' b' h' k.reached)
  end-call l (EmergencyStop now) b h = end-stop now _ b Returned tt h
  end-call l (PollEstop raised now) b h = end-poll raised now _ b h
  end-call l (RecoverLocal now) b h = after-tick s End now _ b _ h (λ l' b' h' k. end-recover now l' b' h')
  end-call l (Acquire r now) b h = after-tick s End now _ b _ h (λ l' b' h' k. end-grant r now l' b' h' (λ e. (k.ready e).0) _ refl)
  end-call l (Renew r) b h = after-tick s End r.now _ b _ h (λ l' b' h' k. end-renewed r l' b' h' (λ e. (k.ready e).0) _ refl)
  end-call l (Cancel owner id now) b h = after-tick s End now _ b _ h (λ l' b' h' k. end-canceled _ now l' b' h')
  end-call l (Submit o) b h = after-tick s End o.now _ b _ h (λ l' b' h' k. end-verdict o _ _ _ l' b' refl refl refl h' (λ e. (k.ready e).0))

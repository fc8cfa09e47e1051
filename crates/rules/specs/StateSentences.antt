-- The Rust's five harnesses (proofs.rs) and what 01 says of the state, each from `StateFacts` or `StopFacts` alone: nothing is used here but
-- those two records and the definitions that they name.
use Rattle.std.specs.Prelude.{ℕ, ◌+◌, ◌-◌, ◌<◌, ◌≤◌, true, false, List, [], ◌∷◌, ◌++◌, ◌⊎◌, ◌≢◌, ◌≡◌, refl, ℤ}
use Rattle.std.proofs.Common.{inl, inr, sym, ◌∙◌, subst, arith}
use Rattle.std.specs.Prelude.{Option, Some, None}
use Rattle.std.proofs.lemmas.Option.{none-some, same_Some}
use Rattle.std.proofs.Math.Path.{ap}
use Rattle.std.specs.Int.Bits.{bit_and}
use Rattle.model.specs.declared.Capability.{Capability}
use Rattle.model.specs.declared.Decision.TheVariants as Decision
use Rattle.model.specs.declared.Lease.{Lease}
use Rattle.model.specs.declared.Reason.{Reason}
use Rattle.model.specs.declared.Receipt.{Receipt}
use Rattle.model.specs.declared.RuntimeState.TheVariants as State
use Rattle.model.specs.declared.Submission.{Submission}
use Rattle.model.specs.Soundness.{axis_used}
use Rattle.rules.specs.Lists.{Mem}
use Rattle.rules.specs.Book.{Book, lease_at}
use Rattle.rules.specs.Interaction.{Answer, Returned, Polled, Succeeded, Refused, Submitted, Done}
use Rattle.rules.specs.SoundStart.{Named}
use Rattle.rules.specs.Admissible.{Inside}
use Rattle.rules.specs.Rules.{exhausted, tick, meets_estop}
use Rattle.rules.specs.Protocol.{Call, Tick, EmergencyStop, PollEstop, RecoverLocal, Submit, Reply, Input, Calls, Item, ItemExecute, ItemFallback, ItemRecord, Output, Hands, Answers, Start, Phase, Idle, book_in, begin, Reaction, react}
use Rattle.rules.specs.Lives.{outputs_from, phase_from}
use Rattle.rules.specs.Log.{History, phase_after, output_after, log_of, book_before, call_of, Exchange, current, dispatching}
use Rattle.rules.specs.Way.{Runs}
use Rattle.rules.specs.StateFacts.{NoLease, Revoked, MakesRoom, StateFacts}
use Rattle.rules.specs.StopFacts.{Unready, InEstop, Halted, Throughout, Unlifted, Stopped, Blocked, Unrecovered, StopFacts}

-- the state --------------------------------------------------------------------------------------------------------------

module _ (facts : (s : Start) (h : History) → StateFacts s h) where
  -- 01: "Armed if any lease stands, else SafeIdle", between calls
  pub armed-if-leased : (s : Start) (h : History) (b : Book) → phase_after s h ≡ Idle b → (axis : ℕ) (x : Lease) → lease_at b axis ≡ Some x → b.state ≡ State.Armed
  armed-if-leased s h b e axis x q = ((facts s h).armed-exactly b e).1 (axis, x, q)

  pub leased-if-armed : (s : Start) (h : History) (b : Book) → phase_after s h ≡ Idle b → b.state ≡ State.Armed
      → (axis : ℕ) × (x : Lease) × (lease_at b axis ≡ Some x) × (axis_used b.capabilities axis ≡ true)
  unfolding book_in
  leased-if-armed s h b e armed =
      let l = ((facts s h).armed-exactly b e).0 armed in
      let shown : book_in (phase_after s h) ≡ Some b = ap book_in e in
      (l.0, l.1, l.2, (facts s h).on-used-axis b shown l.0 (λ n. none-some _ (sym n ∙ l.2)))

  -- Faulted or Estopped there is no lease between calls; in SafeIdle there is none at any time
  pub none-while-stopped : (s : Start) (h : History) (b : Book) → phase_after s h ≡ Idle b → Unready b.state → NoLease b
  none-while-stopped s h b e u = (facts s h).stopped-no-lease b e (λ armed. subst Unready armed u)

  pub none-while-idle : (s : Start) (h : History) (b : Book) → book_in (phase_after s h) ≡ Some b → b.state ≡ State.SafeIdle → NoLease b
  none-while-idle s h b e = (facts s h).idle-no-lease b e

  -- a bit of the stop mask in the flags: Estopped
  pub mask-means-estopped : (s : Start) (h : History) (b : Book) → book_in (phase_after s h) ≡ Some b → meets_estop b.flags b.config ≡ true → b.state ≡ State.Estopped
  mask-means-estopped s h b e = (facts s h).mask-only-estopped b e

  -- 01, "Known fault": a stamp later than the last tick comes only with a counter at the top
  pub stamp-in-time : (s : Start) (h : History) (b : Book) → book_in (phase_after s h) ≡ Some b → exhausted b ≡ false → b.state_at ≤ b.last_tick
  stamp-in-time s h b e = (facts s h).stamp-before-tick b e

  -- readiness never answers 18
  pub never-18 : (s : Start) (h : History) → (output_after s h ≢ Answers (Refused Reason.Clock))
      × ((r : Receipt) → r.decision ≡ Decision.Rejected → (output_after s h ≡ Hands (ItemRecord r)) ⊎ (output_after s h ≡ Answers (Submitted r)) → r.reason ≢ Reason.Clock)
  never-18 s h = ((facts s h).never-clock, either)
    where
      either : (r : Receipt) → r.decision ≡ Decision.Rejected → (output_after s h ≡ Hands (ItemRecord r)) ⊎ (output_after s h ≡ Answers (Submitted r)) → r.reason ≢ Reason.Clock
      either r d (inl e) = (facts s h).never-clock-record r e d
      either r d (inr e) = (facts s h).never-clock-receipt r e d

  -- proofs.rs, `tick_revokes_expired_or_unsupervised_authority`, whatever the driver replies
  module _ (s : Start) (h : History) (b : Book) (idle : phase_after s h ≡ Idle b) (now : ℕ) (replies : List Reply) (items : List Item) (b' : Book)
      (run : Runs (tick now b (λ b''. Done b'' Returned)) replies items (Done b' Returned)) where
    -- an expired lease is gone, and its axis fell back
    pub expired-gone : (axis : ℕ) (x : Lease) → lease_at b axis ≡ Some x → x.expires_at ≤ now
        → (lease_at b' axis ≡ None) × ((reason : Reason) × Mem (ItemFallback axis reason) items)
    expired-gone axis x q late = go (lease_at b' axis) refl
      where
        go : (o : Option Lease) → lease_at b' axis ≡ o → (lease_at b' axis ≡ None) × ((reason : Reason) × Mem (ItemFallback axis reason) items)
        go None e =
            (e, ((facts s h).tick-revokes b idle now replies items b' run).fell-back axis (λ n. none-some _ (sym n ∙ q)) e)
        go (Some y) e =
            let k = (facts s h).tick-revokes b idle now replies items b' run in
            let same : x ≡ y = same_Some _ _ (sym q ∙ k.stood axis y e) in
            absurd (omega (arith, subst (λ (z : Lease). now < z.expires_at) (sym same) (k.unexpired axis y e)))

    -- after a gap over the watchdog's, or at a time before the last tick, none stands; and where one stands the runtime is Armed
    pub unsupervised-gone : (b.config.watchdog_ms < now - b.last_tick) ⊎ (now < b.last_tick) → NoLease b'
    unsupervised-gone (inl gap) = ((facts s h).tick-revokes b idle now replies items b' run).watchdog gap
    unsupervised-gone (inr back) = ((facts s h).tick-revokes b idle now replies items b' run).clock back

    pub armed_after : (axis : ℕ) (x : Lease) → lease_at b' axis ≡ Some x → b'.state ≡ State.Armed
    armed_after axis x q = ((facts s h).tick-revokes b idle now replies items b' run).armed (axis, x, q)

  -- the call does so
  pub tick-does-so : (s : Start) (h : History) (x : Exchange) (b : Book) (now : ℕ) (a : Answer) → output_after s h ≡ Answers a
      → current (log_of s h) ≡ Some x → book_before s h ≡ Some b → x.call ≡ Tick now
      → (b' : Book) × (phase_after s h ≡ Idle b')
      × ((axis : ℕ) (y : Lease) → lease_at b' axis ≡ Some y → (lease_at b axis ≡ Some y) × (now < y.expires_at) × (b'.state ≡ State.Armed))
      × ((b.config.watchdog_ms < now - b.last_tick) ⊎ (now < b.last_tick) → NoLease b')
  tick-does-so s h x b now a e q f call = (k.0, k.1, λ axis y l. (k.2.stood axis y l, k.2.unexpired axis y l, k.2.armed (axis, y, l)), gone)
    where
      k : (b' : Book) × (phase_after s h ≡ Idle b') × Revoked now b x.items b'
      k = (facts s h).tick-call x b now a e q f call

      gone : (b.config.watchdog_ms < now - b.last_tick) ⊎ (now < b.last_tick) → NoLease k.0
      gone (inl gap) = k.2.watchdog gap
      gone (inr back) = k.2.clock back

  -- a step keeps at most one receipt, the one that it hands out, the newest; a full ring drops its oldest Rejected receipt, else its oldest
  pub one-at-a-time : (s : Start) (h : History) (b : Book) → book_in (phase_after s h) ≡ Some b → (i : Input) (b' : Book) → book_in (phase_after s (i ∷ h)) ≡ Some b'
      → (b'.receipts ≡ b.receipts)
      ⊎ ((r : Receipt) × (output_after s (i ∷ h) ≡ Hands (ItemRecord r)) × (left : List Receipt) × MakesRoom b.receipts left
      × (b'.receipts ≡ left ++ (r ∷ [])))
  one-at-a-time s h b e i b' f = (facts s h).one-receipt b e i b' f

-- a stop -----------------------------------------------------------------------------------------------------------------

module _ (facts : StopFacts) where
  -- proofs.rs, `emergency_stop_blocks_dispatch_until_local_recovery`
  module _ (s : Start) (h : History) (b : Book) (idle : phase_after s h ≡ Idle b) (now : ℕ) where
    abbrev after : Phase
    after = phase_after s (Calls (EmergencyStop now) ∷ h)

    -- Estopped until a recovery is called, and no execute item
    pub stopped-until-recovery : (is : List Input) → Unrecovered is → (b' : Book) → book_in (phase_from after is) ≡ Some b'
        → (b'.state ≡ State.Estopped) × ((c : ℕ) (ps : List ℤ) → ¬ Mem (Hands (ItemExecute c ps)) (outputs_from after is)) × (¬ Mem (Answers Succeeded) (outputs_from after is))
    stopped-until-recovery is calm b' e =
        let k = facts.stop-blocks s h b idle now in
        let u = k.unrecovered is calm in
        (k.estopped is calm b' e, u.no-execute, u.no-success)

    -- and no execute item until one succeeds
    pub blocked-until-success : (is : List Input) (before later : List Output) (c : ℕ) (ps : List ℤ)
        → outputs_from after is ≡ before ++ (Hands (ItemExecute c ps) ∷ later) → Mem (Answers Succeeded) before
    blocked-until-success = (facts.stop-blocks s h b idle now).until-success

    -- throughout the call itself too
    pub stop-from-the-first : Throughout InEstop (λ b' a. Halted InEstop b' × (a ≡ Returned)) (begin (EmergencyStop now) b)
    stop-from-the-first = facts.stop-throughout s h b idle now

  -- proofs.rs, `raised_estop_signal_blocks_the_next_dispatch`: a poll that sees a raise
  module _ (s : Start) (h : History) (b : Book) (idle : phase_after s h ≡ Idle b) (raised now : ℕ) (new : raised ≢ b.estop_seen) where
    abbrev polled : Phase
    polled = phase_after s (Calls (PollEstop raised now) ∷ h)

    pub raise-stops : (is : List Input) → Unrecovered is → (b' : Book) → book_in (phase_from polled is) ≡ Some b'
        → (b'.state ≡ State.Estopped) × ((c : ℕ) (ps : List ℤ) → ¬ Mem (Hands (ItemExecute c ps)) (outputs_from polled is))
    raise-stops is calm b' e =
        let k = facts.raise-blocks s h b idle raised now new in
        (k.estopped is calm b' e, (k.unrecovered is calm).no-execute)

    pub raise-blocks-until-success : (is : List Input) (before later : List Output) (c : ℕ) (ps : List ℤ)
        → outputs_from polled is ≡ before ++ (Hands (ItemExecute c ps) ∷ later) → Mem (Answers Succeeded) before
    raise-blocks-until-success = (facts.raise-blocks s h b idle raised now new).until-success

    pub raise-from-the-first : Throughout InEstop (λ b' a. Halted InEstop b' × (a ≡ Polled true)) (begin (PollEstop raised now) b)
    raise-from-the-first = facts.raise-throughout s h b idle raised now new

  -- 01: "a poll sees it exactly when it differs from the number last seen": an equal number does nothing
  pub equal-raise : (b : Book) (now : ℕ) → ((react (Idle b) (Calls (PollEstop b.estop_seen now))).output ≡ Answers (Polled false))
      × ((react (Idle b) (Calls (PollEstop b.estop_seen now))).phase ≡ Idle b)
  equal-raise b now = let e = facts.seen-raise b now in (ap (λ (r : Reaction). r.output) e, ap (λ (r : Reaction). r.phase) e)

  -- whatever stopped it, a runtime that is Faulted or Estopped between calls executes nothing until a success is answered
  pub faulted-blocks : (s : Start) (h : History) (b : Book) → phase_after s h ≡ Idle b → Unready b.state
      → (is : List Input) (before later : List Output) (c : ℕ) (ps : List ℤ)
      → outputs_from (phase_after s h) is ≡ before ++ (Hands (ItemExecute c ps) ∷ later) → Mem (Answers Succeeded) before
  faulted-blocks s h b e u = facts.until-success (phase_after s h) (facts.idle-stopped s h b e u)

  -- step by step: it stays stopped or answers a success, and hands out no execute item
  pub stays-stopped : (p : Phase) → Stopped p → (i : Input)
      → (((react p i).output ≡ Answers Succeeded) ⊎ Stopped (react p i).phase) × ((c : ℕ) (ps : List ℤ) → (react p i).output ≢ Hands (ItemExecute c ps))
  stays-stopped p st i = (facts.stays p st i, facts.no-execute p st i)

  -- only a recovery lifts it
  pub recovery-alone : (b : Book) → Halted Unready b → (c : Call) → ((now : ℕ) → c ≢ RecoverLocal now) → Throughout Unready (Unlifted Unready) (begin c b)
  recovery-alone = facts.only-recovery

  pub still-blocked : (p : Phase) → Blocked Unready p → (is : List Input) → Unrecovered is
      → Blocked Unready (phase_from p is) × ((c : ℕ) (ps : List ℤ) → ¬ Mem (Hands (ItemExecute c ps)) (outputs_from p is)) × (¬ Mem (Answers Succeeded) (outputs_from p is))
  still-blocked p b is calm = let k = facts.until-recovery p b is calm in (k.blocked, k.no-execute, k.no-success)

  -- proofs.rs, `submit_dispatches_only_admissible_actions`
  pub dispatches-only-admissible : (s : Start) (h : History) (c : ℕ) (ps : List ℤ) → output_after s h ≡ Hands (ItemExecute c ps)
      → (b : Book) × (book_in (phase_after s h) ≡ Some b) × (¬ Unready b.state)
      × (o : Submission) × (call_of (log_of s h) ≡ Some (Submit o)) × (c ≡ o.action.capability) × (ps ≡ o.action.parameters)
      × (k : Capability) × Named c s.capabilities k × (x : Lease) × (lease_at b k.resource ≡ Some x)
      × ((o.principal ≢ 0) × (o.principal ≡ o.action.requester) × (x.owner ≡ o.principal) × (x.id ≡ o.action.lease_id) × (o.action.boot_id ≡ s.boot_id))
      × ((bit_and b.flags k.require_set ≡ k.require_set) × (bit_and b.flags k.require_clear ≡ 0) × (bit_and b.flags s.config.estop_mask ≡ 0))
      × ((o.received_at ≤ o.now) × (o.now < o.received_at + o.action.valid_for_ms) × (o.action.execute_after ≤ o.now)
      × (o.now < o.action.deadline) × (o.now < x.expires_at))
      × (Inside k.bounds ps × Inside x.limits ps)
  dispatches-only-admissible s h c ps e =
      let r = facts.dispatch-admissible s h c ps e in
      let d = r.2 in
      let k = d.carried in (
        r.0,
        r.1,
        d.ready,
        k.submission,
        k.call,
        k.capability,
        k.parameters,
        d.capability,
        d.known,
        d.lease,
        d.leased,
        (d.principal, d.requester, d.owner, d.named, d.boot),
        (d.permitted.0, d.permitted.1, d.unmasked),
        (d.received, d.valid, d.begun, d.in-time, d.unexpired),
        (d.bounds, d.limits),
      )

  -- its receipt says so: dispatched exactly where an execute item was handed out, and Executed only there
  pub receipt-tells : (s : Start) (h : History) (r : Receipt) → output_after s h ≡ Answers (Submitted r)
      → (r.dispatched ≡ dispatching (log_of s h)) × (r.decision ≡ Decision.Executed → dispatching (log_of s h) ≡ true)
  receipt-tells s h r e = let k = facts.receipt-reports s h r e in (k.dispatched, k.executed)

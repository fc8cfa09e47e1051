-- Demand 1's sentence on refusals, by the rows of 01's table, each from `Refusals` alone: nothing is used here but that record and the definitions
-- that it names.
use Rattle.std.specs.Prelude.{ℕ, ◌+◌, ◌≤◌, true, false, List, [], ◌∷◌, ◌++◌, map, ◌⊎◌, ◌≢◌, ◌≡◌, refl, length, take}
use Rattle.std.proofs.Common.{append-nil, inl, inr, sym, ap, ◌∙◌, subst}
use Rattle.std.specs.Prelude.{Some, None}
use Rattle.model.specs.declared.Capability.{Capability}
use Rattle.model.specs.declared.Decision.TheVariants as Decision
use Rattle.model.specs.declared.Reason.{Reason}
use Rattle.model.specs.declared.Receipt.{Receipt}
use Rattle.model.specs.declared.RuntimeState.TheVariants as State
use Rattle.model.specs.declared.Submission.{Submission}
use Rattle.rules.specs.Lists.{Mem}
use Rattle.rules.specs.Book.{Book}
use Rattle.rules.specs.Interaction.{Returned, Succeeded, Refused, Submitted, Done}
use Rattle.rules.specs.Admission.{first_failing, admission}
use Rattle.rules.specs.Rules.{used_axes, tick}
use Rattle.rules.specs.Protocol.{Call, Tick, UpdateState, EmergencyStop, PollEstop, RecoverLocal, Acquire, Renew, Cancel, Submit, Reply, FellBack, ReadLease, ReadReceipt, Input, Reads, Item, ItemFallback, ItemRecord, OfLease, OfReceipt, Value, Started, StartRefused, Hands, Answers, Reminds, Refuses, Shows, NoRuntime, Start, Idle, book_in}
use Rattle.rules.specs.Log.{History, phase_after, output_after, took_effect, log_of, book_before, call_of, Exchange, current, start_items, start_replies}
use Rattle.rules.specs.SoundStart.{SoundCapability, ids_of, Misconfigured, SoundStart, FailsAt, StartFails}
use Rattle.rules.specs.SoundStart as Plain
use Rattle.rules.specs.Turns.{awaited}
use Rattle.rules.specs.Way.{Runs, Ticked}
use Rattle.rules.specs.Refusals.{StartRefusals, Refusable, Refusable.acquire as at-acquire, Refusable.renew as at-renew, Refusable.cancel as at-cancel, Refusable.recover as at-recover, Refusing, Driven, Succeeding, Rejected, Counted, Storms, Stormed, Calm, Refusals}

-- a refused start ------------------------------------------------------------------------------------------------------

module _ (s : Start) (rows : StartRefusals s) where
  -- "boot number 0 | 101"
  pub boot-zero : s.boot_id ≡ 0 → output_after s [] ≡ StartRefused 101
  boot-zero e = (rows.which 101).1 (Plain.boot e)

  -- "list empty or above 16, or one of the six `Config` fields 0 | 102"
  pub misconfigured : s.boot_id ≢ 0 → Misconfigured s → output_after s [] ≡ StartRefused 102
  misconfigured b m = (rows.which 102).1 (Plain.configuration b m)

  -- "unsound record | 103", where the records before it pass
  pub unsound-record : (earlier : List Capability) (c : Capability) → FailsAt s earlier c → ¬ SoundCapability c → output_after s [] ≡ StartRefused 103
  unsound-record earlier c at u = (rows.which 103).1 (Plain.unsound earlier c at u)

  -- "id used earlier in the list | 104"
  pub used-id : (earlier : List Capability) (c : Capability) → FailsAt s earlier c → SoundCapability c → Mem c.id (ids_of earlier)
      → output_after s [] ≡ StartRefused 104
  used-id earlier c at h m = (rows.which 104).1 (Plain.duplicate earlier c at h m)

  -- and none of them without its cause
  pub no-other-cause : (n : ℕ) → output_after s [] ≡ StartRefused n → StartFails s n
  no-other-cause n e = (rows.which n).0 e

  -- "no runtime | driver not called"
  pub refused-at-once : (n : ℕ) → output_after s [] ≡ StartRefused n → (h : History) → (log_of s h ≡ []) × (book_in (phase_after s h) ≡ None)
  refused-at-once n e h =
      (rows.no-driver n e h, subst (λ (k : History). book_in (phase_after s k) ≡ None) (append-nil h) (rows.no-runtime [] n e h))

  -- a sound start tries the used axes one after another, the next with each reply, and is then over
  pub tries-each : (h : History) → SoundStart s → call_of (log_of s h) ≡ None
      → start_items (log_of s h)
      ≡ map (λ axis. ItemFallback axis Reason.Startup) (take (length (start_replies (log_of s h)) + 1) (used_axes s.capabilities))
  tries-each h sound call = rows.goes_on h sound call

  pub starts-then : (h : History) → SoundStart s → took_effect (output_after s h) ≡ true → call_of (log_of s h) ≡ None → awaited (log_of s h) ≡ None
      → ¬ Mem (FellBack false) (start_replies (log_of s h)) → output_after s h ≡ Started
  starts-then h sound took call idle good = rows.started h sound took call idle good

  -- "a startup fallback failed | 105 | no runtime | nothing: all used axes were tried"
  pub startup-failed : (h : History) → SoundStart s → took_effect (output_after s h) ≡ true → call_of (log_of s h) ≡ None → awaited (log_of s h) ≡ None
      → Mem (FellBack false) (start_replies (log_of s h))
      → (output_after s h ≡ StartRefused 105) × ((later : List Input) → book_in (phase_after s (later ++ h)) ≡ None)
  startup-failed h sound took call idle m = let e = rows.refused h sound took call idle m in (e, rows.no-runtime h 105 e)

  pub all-tried : (i : Input) (h : History) (n : ℕ) → output_after s (i ∷ h) ≡ StartRefused n
      → (n ≡ 105) × SoundStart s × (start_items (log_of s (i ∷ h)) ≡ map (λ axis. ItemFallback axis Reason.Startup) (used_axes s.capabilities))
      × (length (start_replies (log_of s (i ∷ h))) ≡ length (used_axes s.capabilities)) × Mem (FellBack false) (start_replies (log_of s (i ∷ h)))
  all-tried i h n e = let k = rows.startup i h n e in (k.0, k.1.sound, k.1.tried, k.1.answered, k.1.failed)

-- the other rows -------------------------------------------------------------------------------------------------------

-- the time of a call that a reason refuses
unfoldable pub time_of : Call → ℕ
time_of (Tick now) = now
time_of (UpdateState flags now) = now
time_of (EmergencyStop now) = now
time_of (PollEstop raised now) = now
time_of (RecoverLocal now) = now
time_of (Acquire q now) = now
time_of (Renew q) = q.now
time_of (Cancel owner id now) = now
time_of (Submit o) = o.now

at-its-time : {c : Call} {now : ℕ} → Refusable c now → now ≡ time_of c
unfolding time_of
at-its-time at-acquire = refl
at-its-time at-renew = refl
at-its-time at-cancel = refl
at-its-time at-recover = refl

module _ (rows : (s : Start) (h : History) → Refusals s h) where
  -- "a call begun while a reply is awaited | 111 |..| whole state"; "a reply of another kind than awaited | 113 |..| whole state"
  pub whole-state : (s : Start) (h : History) (i : Input) (n : ℕ) (item : Item) → output_after s (i ∷ h) ≡ Reminds n item
      → (phase_after s (i ∷ h) ≡ phase_after s h) × (log_of s (i ∷ h) ≡ log_of s h) × (book_before s (i ∷ h) ≡ book_before s h)
  whole-state s h i n item e = let k = (rows s h).reminded i n item e in (k.phase, k.log, k.before)

  -- "a reply while none is awaited | 112 |..| whole state"; the same where there is no runtime, and of a reading
  pub number-only : (s : Start) (h : History) (i : Input) (n : ℕ) → output_after s (i ∷ h) ≡ Refuses n
      → (phase_after s (i ∷ h) ≡ phase_after s h) × (log_of s (i ∷ h) ≡ log_of s h) × (book_before s (i ∷ h) ≡ book_before s h)
  number-only s h i n e = let k = (rows s h).refused i n e in (k.phase, k.log, k.before)

  pub no-runtime-met : (s : Start) (h : History) (i : Input) → output_after s (i ∷ h) ≡ NoRuntime
      → (phase_after s (i ∷ h) ≡ phase_after s h) × (log_of s (i ∷ h) ≡ log_of s h)
  no-runtime-met s h i e = let k = (rows s h).unmet i e in (k.phase, k.log)

  pub reading-alters-nothing : (s : Start) (h : History) (i : Input) (v : Value) → output_after s (i ∷ h) ≡ Shows v
      → (phase_after s (i ∷ h) ≡ phase_after s h) × (log_of s (i ∷ h) ≡ log_of s h)
  reading-alters-nothing s h i v e = let k = (rows s h).shown i v e in (k.phase, k.log)

  -- "`acquire`, `renew`, `cancel`, `recover_local` refused | Reason | number only | all, but for the opening tick"
  pub all-but-the-tick : (s : Start) (h : History) (x : Exchange) (b : Book) (reason : Reason) → output_after s h ≡ Answers (Refused reason)
      → current (log_of s h) ≡ Some x → book_before s h ≡ Some b → reason ≢ Reason.Driver
      → (book : Book) × Runs (tick (time_of x.call) b (λ b'. Done b' Returned)) x.replies x.items (Done book Returned)
      × (phase_after s h ≡ Idle book) × Refusable x.call (time_of x.call) × Refusing x.call book reason
  all-but-the-tick s h x b reason e q f other =
      let k = (rows s h).call x b reason e q f other in
      let t = k.ticked in
      let time : k.now ≡ time_of x.call = at-its-time k.call in
      let items : t.tick_items ≡ x.items = sym (t.items ∙ ap (λ (is : List Item). t.tick_items ++ is) k.nothing-more ∙ append-nil t.tick_items) in
      let replies : t.ticking ≡ x.replies = sym (t.replies ∙ ap (λ (rs : List Reply). t.ticking ++ rs) k.no-reply ∙ append-nil t.ticking) in (
        k.book,
        subst (λ (rs : List Reply). Runs (tick (time_of x.call) b (λ b'. Done b' Returned)) rs x.items (Done k.book Returned)) replies
            (subst (λ (is : List Item). Runs (tick (time_of x.call) b (λ b'. Done b' Returned)) t.ticking is (Done k.book Returned)) items
            (subst (λ (n : ℕ). Runs (tick n b (λ b'. Done b' Returned)) t.ticking t.tick_items (Done k.book Returned)) time t.run)),
        k.left,
        subst (Refusable x.call) time k.call,
        k.why,
      )

  -- "the same, 16 from the driver | 16 | number only | nothing: fallbacks ran; state Faulted": after the tick, on every used axis
  pub fallbacks-ran : (s : Start) (h : History) (x : Exchange) (b : Book) → output_after s h ≡ Answers (Refused Reason.Driver)
      → current (log_of s h) ≡ Some x → book_before s h ≡ Some b
      → (reason : Reason) × Driven x.call reason × (now : ℕ) × Refusable x.call now × (ticked : Book) × (t : Ticked now b x ticked)
      × ((axis : ℕ) → Mem axis (used_axes s.capabilities) → Mem (ItemFallback axis reason) t.later_items)
      × Mem (FellBack false) t.later × (after : Book) × (phase_after s h ≡ Idle after) × (after.state ≡ State.Faulted)
  fallbacks-ran s h x b e q f =
      let k = (rows s h).driver x b e q f in
      (k.reason, k.call, k.now, k.time, k.ticked-book, k.ticked, k.fell-back, k.failed, k.book, k.left, k.state)

  -- and 16 comes where a fallback failed: a success shows that none did
  pub success-shows : (s : Start) (h : History) (x : Exchange) (b : Book) → output_after s h ≡ Answers Succeeded
      → current (log_of s h) ≡ Some x → book_before s h ≡ Some b
      → (now : ℕ) × Refusable x.call now × (ticked : Book) × (t : Ticked now b x ticked) × Succeeding x.call ticked × (¬ Mem (FellBack false) t.later)
  success-shows s h x b e q f = let k = (rows s h).success x b e q f in (k.now, k.time, k.book, k.ticked, k.found, k.good)

  -- "order rejected | Reason | its receipt | leases, replay, active orders, but for tick and storm": while its receipt is awaited they are as the
  -- tick left them
  pub rejection-awaited : (s : Start) (h : History) (x : Exchange) (b : Book) (r : Receipt) → output_after s h ≡ Hands (ItemRecord r)
      → r.decision ≡ Decision.Rejected → current (log_of s h) ≡ Some x → book_before s h ≡ Some b
      → (o : Submission) × (x.call ≡ Submit o) × (ticked : Book) × (t : Ticked o.now b x ticked)
      × (first_failing (admission o ticked) ≡ Some r.reason) × (after : Book) × (book_in (phase_after s h) ≡ Some after) × Rejected ticked r after
      × (items : List Item) × (t.later_items ≡ ItemRecord r ∷ items)
  rejection-awaited s h x b r e d q f =
      let k = (rows s h).rejecting x b r e d q f in
      let c = k.0 in
      (c.order, c.call, c.book, c.ticked, c.why, c.counted, k.1, c.rejected, c.items, c.receipt)

  -- at its answer only count and receipt differ, if the storm is not due
  pub rejection-answered : (s : Start) (h : History) (x : Exchange) (b : Book) (r : Receipt) → output_after s h ≡ Answers (Submitted r)
      → r.decision ≡ Decision.Rejected → current (log_of s h) ≡ Some x → book_before s h ≡ Some b
      → (k : Counted x b r) × (after : Book) × (phase_after s h ≡ Idle after)
      × ((¬ Storms k.counted → Rejected k.book r after) × (Storms k.counted → Stormed x b r k after))
  rejection-answered s h x b r e d q f =
      let a = (rows s h).rejected x b r e d q f in
      (a.0, a.1, a.2, (calm a.0 a.1 a.3, storm a.0 a.1 a.3))
    where
      calm : (k : Counted x b r) (after : Book) → Calm x b r k after ⊎ Stormed x b r k after → ¬ Storms k.counted → Rejected k.book r after
      calm k after (inl c) n = subst (Rejected k.book r) (sym c.same) k.rejected
      calm k after (inr c) n = absurd (n c.due)

      storm : (k : Counted x b r) (after : Book) → Calm x b r k after ⊎ Stormed x b r k after → Storms k.counted → Stormed x b r k after
      storm k after (inl c) d = absurd (c.not-due d)
      storm k after (inr c) d = c

  -- "`lease` with axis 8 or more and `receipt` with an index at or past the count return none."
  pub past-the-ends : (s : Start) (h : History) (b : Book) → book_in (phase_after s h) ≡ Some b
      → ((axis : ℕ) → 8 ≤ axis → output_after s (Reads (ReadLease axis) ∷ h) ≡ Shows (OfLease None))
      × ((i : ℕ) → length b.receipts ≤ i → output_after s (Reads (ReadReceipt i) ∷ h) ≡ Shows (OfReceipt None))
  past-the-ends s h b e = ((rows s h).no-lease b e, (rows s h).no-receipt b e)

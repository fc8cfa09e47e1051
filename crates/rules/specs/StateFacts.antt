-- What holds of the state after every history, beside demand 3: when the runtime is Armed, when a bit of the stop mask may stand in the
-- flags, how stamp and last tick lie, that 18 is never a call's answer, what a tick takes away, and what a step keeps.
use Rattle.std.specs.Prelude.{ℕ, ◌-◌, ◌<◌, ◌≤◌, true, false, List, [], ◌∷◌, ◌++◌, ◌⊎◌, ◌≢◌, ◌↔◌, ◌≡◌, length}
use Rattle.std.specs.Prelude.{Some, None}
use Rattle.model.specs.declared.Decision.TheVariants as Decision
use Rattle.model.specs.declared.Lease.{Lease}
use Rattle.model.specs.declared.Reason.{Reason}
use Rattle.model.specs.declared.Receipt.{Receipt}
use Rattle.model.specs.declared.RuntimeState.TheVariants as State
use Rattle.model.specs.Soundness.{axis_used}
use Rattle.rules.specs.Book.{Book, lease_at}
use Rattle.rules.specs.Interaction.{Answer, Returned, Refused, Submitted, Done}
use Rattle.rules.specs.Lists.{Mem}
use Rattle.rules.specs.Rules.{exhausted, tick, meets_estop}
use Rattle.rules.specs.Protocol.{Tick, Reply, Input, Item, ItemFallback, ItemRecord, Output, Hands, Answers, Start, Idle, book_in}
use Rattle.rules.specs.Log.{History, phase_after, output_after, log_of, book_before, Exchange, current}
use Rattle.rules.specs.Way.{Runs}

-- a lease stands on some axis
abbrev pub LeaseStands : Book → Type 0
LeaseStands b = (axis : ℕ) × (x : Lease) × (lease_at b axis ≡ Some x)

-- none stands on any
abbrev pub NoLease : Book → Type 0
NoLease b = (axis : ℕ) → lease_at b axis ≡ None

-- What a tick at a time leaves of the leases, given the items that it handed out (proofs.rs, `tick_revokes_expired_or_unsupervised_authority`,
-- "the watchdog by the gap since the last tick").
pub record Revoked (now : ℕ) (before : Book) (items : List Item) (after : Book) : Type 0 where
  -- a lease that stands stood before, has not expired, and the runtime is Armed
  pub stood : (axis : ℕ) (x : Lease) → lease_at after axis ≡ Some x → lease_at before axis ≡ Some x
  pub unexpired : (axis : ℕ) (x : Lease) → lease_at after axis ≡ Some x → now < x.expires_at
  pub armed : LeaseStands after → after.state ≡ State.Armed
  -- an axis whose lease stands no more has fallen back
  pub fell-back : (axis : ℕ) → lease_at before axis ≢ None → lease_at after axis ≡ None
      → (reason : Reason) × Mem (ItemFallback axis reason) items
  -- none stands after a gap over the watchdog's, nor at a time before the last tick
  pub watchdog : before.config.watchdog_ms < now - before.last_tick → NoLease after
  pub clock : now < before.last_tick → NoLease after

-- 01: "A full ring drops its oldest Rejected receipt, else its oldest": what is left of the receipts kept, for one more
pub data MakesRoom (before : List Receipt) : List Receipt → Type 0 where
  room : length before < 64 → MakesRoom before before
  drops-rejected : (older : List Receipt) (r : Receipt) (newer : List Receipt) → 64 ≤ length before → before ≡ older ++ (r ∷ newer)
      → r.decision ≡ Decision.Rejected → ((q : Receipt) → Mem q older → q.decision ≢ Decision.Rejected) → MakesRoom before (older ++ newer)
  drops-oldest : (r : Receipt) (newer : List Receipt) → 64 ≤ length before → before ≡ r ∷ newer
      → ((q : Receipt) → Mem q before → q.decision ≢ Decision.Rejected) → MakesRoom before newer

-- the receipts kept are those of before, or the one that an output hands out is kept too, the newest
abbrev pub KeepsOne : Output → List Receipt → List Receipt → Type 0
KeepsOne out before after =
    (after ≡ before)
    ⊎ ((r : Receipt) × (out ≡ Hands (ItemRecord r)) × (left : List Receipt) × MakesRoom before left × (after ≡ left ++ (r ∷ [])))

-- after every history of every start
pub record StateFacts (s : Start) (h : History) : Type 0 where
  -- between calls the runtime is Armed exactly while a lease stands
  pub armed-exactly : (b : Book) → phase_after s h ≡ Idle b → (b.state ≡ State.Armed) ↔ LeaseStands b
  -- so Faulted or Estopped, between calls, there is none
  pub stopped-no-lease : (b : Book) → phase_after s h ≡ Idle b → b.state ≢ State.Armed → NoLease b
  -- and while a reply is awaited there is none in SafeIdle
  pub idle-no-lease : (b : Book) → book_in (phase_after s h) ≡ Some b → b.state ≡ State.SafeIdle → NoLease b
  -- a lease stands on a used axis only
  pub on-used-axis : (b : Book) → book_in (phase_after s h) ≡ Some b → (axis : ℕ) → lease_at b axis ≢ None → axis_used b.capabilities axis ≡ true
  -- a bit of the stop mask stands in the flags only when Estopped
  pub mask-only-estopped : (b : Book) → book_in (phase_after s h) ≡ Some b → meets_estop b.flags b.config ≡ true → b.state ≡ State.Estopped
  -- the stamp is not after the last tick unless a counter is at the top
  pub stamp-before-tick : (b : Book) → book_in (phase_after s h) ≡ Some b → exhausted b ≡ false → b.state_at ≤ b.last_tick
  -- readiness never answers 18: neither as a refusal, nor in the receipt of a rejected order, as it is handed out or as the answer
  pub never-clock : output_after s h ≢ Answers (Refused Reason.Clock)
  pub never-clock-record : (r : Receipt) → output_after s h ≡ Hands (ItemRecord r) → r.decision ≡ Decision.Rejected → r.reason ≢ Reason.Clock
  pub never-clock-receipt : (r : Receipt) → output_after s h ≡ Answers (Submitted r) → r.decision ≡ Decision.Rejected → r.reason ≢ Reason.Clock
  -- a tick takes every lease away that has expired or was not supervised, whatever the driver replies
  pub tick-revokes : (b : Book) → phase_after s h ≡ Idle b → (now : ℕ) (replies : List Reply) (items : List Item) (b' : Book)
      → Runs (tick now b (λ b''. Done b'' Returned)) replies items (Done b' Returned) → Revoked now b items b'
  -- so does the call
  pub tick-call : (x : Exchange) (b : Book) (now : ℕ) (a : Answer) → output_after s h ≡ Answers a → current (log_of s h) ≡ Some x
      → book_before s h ≡ Some b → x.call ≡ Tick now → (b' : Book) × (phase_after s h ≡ Idle b') × Revoked now b x.items b'
  -- a step keeps at most one receipt
  pub one-receipt : (b : Book) → book_in (phase_after s h) ≡ Some b → (i : Input) (b' : Book) → book_in (phase_after s (i ∷ h)) ≡ Some b'
      → KeepsOne (output_after s (i ∷ h)) b.receipts b'.receipts

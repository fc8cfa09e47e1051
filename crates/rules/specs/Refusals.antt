-- Demand 1: "Nothing in a refused start or a misplaced reply alters a runtime; every refusal has the number and the remains set down in 01".
-- The rows of 01's table ("What the customer meets as a refusal"), for every start, history and call. Which of 111 to 113 comes, and when,
-- is in Turns.
use Rattle.std.specs.Prelude.{ℕ, ◌+◌, ◌-◌, ◌≤◌, ◌<◌, true, false, List, [], ◌∷◌, ◌++◌, map, ◌⊎◌, ◌≢◌, ◌↔◌, ◌≡◌, length, take}
use Rattle.std.specs.Prelude.{Some, None}
use Rattle.model.specs.declared.Decision.TheVariants as Decision
use Rattle.model.specs.declared.LeaseRequest.{LeaseRequest}
use Rattle.model.specs.declared.Reason.{Reason}
use Rattle.model.specs.declared.Receipt.{Receipt}
use Rattle.model.specs.declared.Renewal.{Renewal}
use Rattle.model.specs.declared.RuntimeState.TheVariants as State
use Rattle.model.specs.declared.Submission.{Submission}
use Rattle.rules.specs.Lists.{Mem}
use Rattle.rules.specs.Book.{Book}
use Rattle.rules.specs.Receipts.{bump_to, bump, receipt_capacity, keep}
use Rattle.rules.specs.Interaction.{Succeeded, Refused, Submitted, Done}
use Rattle.rules.specs.Admission.{first_failing, acquire_checks, held_axis, renew_checks, admission}
use Rattle.rules.specs.Rules.{used_axes, trip, exhausted, meets_estop}
use Rattle.rules.specs.Protocol.{Call, RecoverLocal, Acquire, Renew, Cancel, Submit, Reply, FellBack, Recorded, ReadLease, ReadReceipt, Input, Reads, Item, ItemFallback, ItemRecord, OfLease, OfReceipt, Value, Started, StartRefused, Hands, Answers, Reminds, Refuses, Shows, NoRuntime, Start, Idle, book_in}
use Rattle.rules.specs.Log.{History, phase_after, output_after, took_effect, Log, log_of, book_before, call_of, Exchange, current, start_items, start_replies}
use Rattle.rules.specs.SoundStart.{SoundStart, StartFails}
use Rattle.rules.specs.Turns.{awaited}
use Rattle.rules.specs.Way.{Runs, Ticked}

-- a refused start ------------------------------------------------------------------------------------------------------

-- 01: "a startup fallback failed | 105 | no runtime | nothing: all used axes were tried"
pub record StartupFailed (s : Start) (l : Log) : Type 0 where
  pub sound : SoundStart s
  pub tried : start_items l ≡ map (λ axis. ItemFallback axis Reason.Startup) (used_axes s.capabilities)
  pub answered : length (start_replies l) ≡ length (used_axes s.capabilities)
  pub failed : Mem (FellBack false) (start_replies l)

pub record StartRefusals (s : Start) : Type 0 where
  -- 101 to 104: which one comes, by the first check that fails
  pub which : (n : ℕ) → (output_after s [] ≡ StartRefused n) ↔ StartFails s n
  -- "driver not called", then or later
  pub no-driver : (n : ℕ) → output_after s [] ≡ StartRefused n → (h : History) → log_of s h ≡ []
  -- a sound start hands out the fallbacks one after another, the next one with each reply, until every used axis was tried
  pub goes_on : (h : History) → SoundStart s → call_of (log_of s h) ≡ None
      → start_items (log_of s h)
      ≡ map (λ axis. ItemFallback axis Reason.Startup) (take (length (start_replies (log_of s h)) + 1) (used_axes s.capabilities))
  -- and then it is over: there is a runtime if none failed
  pub started : (h : History) → SoundStart s → took_effect (output_after s h) ≡ true → call_of (log_of s h) ≡ None → awaited (log_of s h) ≡ None
      → ¬ Mem (FellBack false) (start_replies (log_of s h)) → output_after s h ≡ Started
  -- 105 comes of an input, and only so
  pub startup : (i : Input) (h : History) (n : ℕ) → output_after s (i ∷ h) ≡ StartRefused n → (n ≡ 105) × StartupFailed s (log_of s (i ∷ h))
  -- and it comes: a start that goes on no more, after a failure, is refused with it
  pub refused : (h : History) → SoundStart s → took_effect (output_after s h) ≡ true → call_of (log_of s h) ≡ None → awaited (log_of s h) ≡ None
      → Mem (FellBack false) (start_replies (log_of s h)) → output_after s h ≡ StartRefused 105
  -- "no runtime", then or later
  pub no-runtime : (h : History) (n : ℕ) → output_after s h ≡ StartRefused n → (later : List Input) → book_in (phase_after s (later ++ h)) ≡ None

-- a misplaced call or reply --------------------------------------------------------------------------------------------

-- 01: "Left as it was: whole state"; and the log, and the book on which the call in hand began
pub record Unaltered (s : Start) (i : Input) (h : History) : Type 0 where
  pub phase : phase_after s (i ∷ h) ≡ phase_after s h
  pub log : log_of s (i ∷ h) ≡ log_of s h
  pub before : book_before s (i ∷ h) ≡ book_before s h

-- a refused call -------------------------------------------------------------------------------------------------------

-- the calls that a reason refuses, and their time
pub data Refusable : Call → ℕ → Type 0 where
  acquire : {q : LeaseRequest} {now : ℕ} → Refusable (Acquire q now) now
  renew : {q : Renewal} → Refusable (Renew q) q.now
  cancel : {owner id now : ℕ} → Refusable (Cancel owner id now) now
  recover : {now : ℕ} → Refusable (RecoverLocal now) now

-- why a reason refuses a call, in the book that its tick left: the first check that fails; for a cancel that the lease is not held; for a
-- recovery the two tests that come before its fallbacks
pub data Refusing : Call → Book → Reason → Type 0 where
  acquire : {q : LeaseRequest} {now : ℕ} {b : Book} {reason : Reason} → first_failing (acquire_checks q now b) ≡ Some reason
      → Refusing (Acquire q now) b reason
  renew : {q : Renewal} {b : Book} {reason : Reason} → first_failing (renew_checks q b) ≡ Some reason → Refusing (Renew q) b reason
  cancel : {owner id now : ℕ} {b : Book} → held_axis owner id b ≡ None → Refusing (Cancel owner id now) b Reason.Authority
  estopped : {now : ℕ} {b : Book} → meets_estop b.flags b.config ≡ true → Refusing (RecoverLocal now) b Reason.Estop
  unsafe : {now : ℕ} {b : Book} → meets_estop b.flags b.config ≡ false
      → (now < b.last_tick) ⊎ ((b.config.state_ttl_ms ≤ now - b.state_at) ⊎ (exhausted b ≡ true)) → Refusing (RecoverLocal now) b Reason.Precondition

-- 01: "`acquire`, `renew`, `cancel`, `recover_local` refused | Reason | number only | all, but for the opening tick"
pub record LeftAsTicked (s : Start) (h : History) (x : Exchange) (before : Book) (reason : Reason) : Type 0 where
  pub now : ℕ
  pub call : Refusable x.call now
  pub book : Book
  pub ticked : Ticked now before x book
  pub why : Refusing x.call book reason
  pub no-reply : ticked.later ≡ []
  pub nothing-more : ticked.later_items ≡ []
  pub left : phase_after s h ≡ Idle book

-- the calls that 16 refuses, and the reason of the fallbacks that then ran
pub data Driven : Call → Reason → Type 0 where
  cancel : {owner id now : ℕ} → Driven (Cancel owner id now) Reason.Driver
  recover : {now : ℕ} → Driven (RecoverLocal now) Reason.Recovered

-- 01: "the same, 16 from the driver | 16 | number only | nothing: fallbacks ran; state Faulted". Never Estopped: a cancel that comes so far
-- found a lease, and a recovery that fails sets Faulted. The fallbacks came after the opening tick.
pub record LeftFaulted (s : Start) (h : History) (x : Exchange) (before : Book) : Type 0 where
  pub now : ℕ
  pub time : Refusable x.call now
  pub reason : Reason
  pub call : Driven x.call reason
  pub ticked-book : Book
  pub ticked : Ticked now before x ticked-book
  pub fell-back : (axis : ℕ) → Mem axis (used_axes s.capabilities) → Mem (ItemFallback axis reason) ticked.later_items
  pub failed : Mem (FellBack false) ticked.later
  pub book : Book
  pub left : phase_after s h ≡ Idle book
  pub state : book.state ≡ State.Faulted

-- the calls that succeed, and what was found in the book that their tick left
pub data Succeeding : Call → Book → Type 0 where
  cancel : {owner id now axis : ℕ} {b : Book} → held_axis owner id b ≡ Some axis → Succeeding (Cancel owner id now) b
  recover : {now : ℕ} {b : Book} → meets_estop b.flags b.config ≡ false → b.last_tick ≤ now → now - b.state_at < b.config.state_ttl_ms
      → exhausted b ≡ false → Succeeding (RecoverLocal now) b

-- and none of their fallbacks failed: else 16
pub record Succeeds (x : Exchange) (before : Book) : Type 0 where
  pub now : ℕ
  pub time : Refusable x.call now
  pub book : Book
  pub ticked : Ticked now before x book
  pub found : Succeeding x.call book
  pub good : ¬ Mem (FellBack false) ticked.later

-- a rejected order -----------------------------------------------------------------------------------------------------

-- the book with one more rejection counted and its receipt kept; nothing else differs
pub record Rejected (before : Book) (r : Receipt) (after : Book) : Type 0 where
  pub count : after.invalid_count ≡ bump_to 65535 before.invalid_count
  pub receipts : after.receipts ≡ keep receipt_capacity before.receipts r
  pub next : after.next_receipt ≡ bump before.next_receipt
  -- 01: "leases, replay, active orders"
  pub leases : after.leases ≡ before.leases
  pub replay : after.replay ≡ before.replay
  pub active : after.active ≡ before.active
  -- and the rest
  pub config : after.config ≡ before.config
  pub boot : after.boot_id ≡ before.boot_id
  pub capabilities : after.capabilities ≡ before.capabilities
  pub next_lease : after.next_lease ≡ before.next_lease
  pub epoch : after.epoch ≡ before.epoch
  pub flags : after.flags ≡ before.flags
  pub stamp : after.state_at ≡ before.state_at
  pub last_tick : after.last_tick ≡ before.last_tick
  pub state : after.state ≡ before.state
  pub seen : after.estop_seen ≡ before.estop_seen

-- its opening tick left a book, and in that book the rejection was counted and its receipt kept
pub record Counted (x : Exchange) (before : Book) (r : Receipt) : Type 0 where
  pub order : Submission
  pub call : x.call ≡ Submit order
  pub book : Book
  pub ticked : Ticked order.now before x book
  pub why : first_failing (admission order book) ≡ Some r.reason
  pub counted : Book
  pub rejected : Rejected book r counted
  -- the receipt is the next item after the tick's
  pub items : List Item
  pub receipt : ticked.later_items ≡ ItemRecord r ∷ items

-- 01: "at or above `invalid_limit` while Armed it trips 21, after its receipt"
abbrev pub Storms : Book → Type 0
Storms b = (b.config.invalid_limit ≤ b.invalid_count) × (b.state ≡ State.Armed)

-- the storm's trip, from the reply to the receipt on
pub record Stormed (x : Exchange) (before : Book) (r : Receipt) (k : Counted x before r) (after : Book) : Type 0 where
  pub due : Storms k.counted
  pub replies : List Reply
  pub later : k.ticked.later ≡ Recorded ∷ replies
  pub run : Runs (trip Reason.InvalidStorm k.order.now k.counted (λ b. Done b (Submitted r))) replies k.items (Done after (Submitted r))

-- no storm: nothing more, and only count and receipt differ
pub record Calm (x : Exchange) (before : Book) (r : Receipt) (k : Counted x before r) (after : Book) : Type 0 where
  pub not-due : ¬ Storms k.counted
  pub later : k.ticked.later ≡ Recorded ∷ []
  pub nothing-more : k.items ≡ []
  pub same : after ≡ k.counted

-- the table ------------------------------------------------------------------------------------------------------------

-- after every history of every start
pub record Refusals (s : Start) (h : History) : Type 0 where
  pub start : StartRefusals s
  -- 111, 113; 112; no runtime; and a reading
  pub reminded : (i : Input) (n : ℕ) (item : Item) → output_after s (i ∷ h) ≡ Reminds n item → Unaltered s i h
  pub refused : (i : Input) (n : ℕ) → output_after s (i ∷ h) ≡ Refuses n → Unaltered s i h
  pub unmet : (i : Input) → output_after s (i ∷ h) ≡ NoRuntime → Unaltered s i h
  pub shown : (i : Input) (v : Value) → output_after s (i ∷ h) ≡ Shows v → Unaltered s i h
  -- a reason other than 16; and 16
  pub call : (x : Exchange) (b : Book) (reason : Reason) → output_after s h ≡ Answers (Refused reason) → current (log_of s h) ≡ Some x
      → book_before s h ≡ Some b → reason ≢ Reason.Driver → LeftAsTicked s h x b reason
  pub driver : (x : Exchange) (b : Book) → output_after s h ≡ Answers (Refused Reason.Driver) → current (log_of s h) ≡ Some x
      → book_before s h ≡ Some b → LeftFaulted s h x b
  pub success : (x : Exchange) (b : Book) → output_after s h ≡ Answers Succeeded → current (log_of s h) ≡ Some x → book_before s h ≡ Some b
      → Succeeds x b
  -- 01: "order rejected | Reason | its receipt | leases, replay, active orders, but for tick and storm": while its receipt is awaited, and at
  -- its answer
  pub rejecting : (x : Exchange) (b : Book) (r : Receipt) → output_after s h ≡ Hands (ItemRecord r) → r.decision ≡ Decision.Rejected
      → current (log_of s h) ≡ Some x → book_before s h ≡ Some b → (k : Counted x b r) × (book_in (phase_after s h) ≡ Some k.counted)
  pub rejected : (x : Exchange) (b : Book) (r : Receipt) → output_after s h ≡ Answers (Submitted r) → r.decision ≡ Decision.Rejected
      → current (log_of s h) ≡ Some x → book_before s h ≡ Some b
      → (k : Counted x b r) × (after : Book) × (phase_after s h ≡ Idle after) × (Calm x b r k after ⊎ Stormed x b r k after)
  -- 01: "`lease` with axis 8 or more and `receipt` with an index at or past the count return none."
  pub no-lease : (b : Book) → book_in (phase_after s h) ≡ Some b → (axis : ℕ) → 8 ≤ axis
      → output_after s (Reads (ReadLease axis) ∷ h) ≡ Shows (OfLease None)
  pub no-receipt : (b : Book) → book_in (phase_after s h) ≡ Some b → (i : ℕ) → length b.receipts ≤ i
      → output_after s (Reads (ReadReceipt i) ∷ h) ≡ Shows (OfReceipt None)

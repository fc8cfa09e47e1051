-- What an answer says is what was handed out: each call has its own kind of answer; an order is answered with its receipt, a grant or a
-- renewal with the lease that stands.
use Rattle.std.specs.Prelude.{ℕ, ◌+◌, ◌<◌, min, Bool, true, false, List, [], ◌∷◌, ◌++◌, ◌⊎◌, ◌≢◌, ◌↔◌, ◌≡◌, ℤ, set}
use Rattle.std.specs.Prelude.{Option, Some, None}
use Rattle.std.specs.Int.Bits.{bit_and}
use Rattle.model.specs.declared.Active.{Active}
use Rattle.model.specs.declared.Capability.{Capability}
use Rattle.model.specs.declared.Decision.TheVariants as Decision
use Rattle.model.specs.declared.ExecutionClass.{ExecutionClass}
use Rattle.model.specs.declared.ExecutionClass.TheVariants as Class
use Rattle.model.specs.declared.Lease.{Lease}
use Rattle.model.specs.declared.LeaseRequest.{LeaseRequest}
use Rattle.model.specs.declared.Observation.{Observation}
use Rattle.model.specs.declared.Reason.{Reason}
use Rattle.model.specs.declared.Receipt.{Receipt}
use Rattle.model.specs.declared.Renewal.{Renewal}
use Rattle.model.specs.declared.RuntimeState.TheVariants as State
use Rattle.model.specs.declared.Submission.{Submission}
use Rattle.model.specs.declared.Verification.{Verification}
use Rattle.model.specs.declared.Verification.TheVariants.{Parameters, State as StateIs}
use Rattle.rules.specs.Lists.{Mem}
use Rattle.rules.specs.Book.{Book, lease_at}
use Rattle.rules.specs.Receipts.{top, bump}
use Rattle.rules.specs.Interaction.{Answer, Returned, Polled, Succeeded, Leased, Refused, Submitted, Done}
use Rattle.rules.specs.Grantable.{Grantable, Renewable}
use Rattle.rules.specs.Rules.{used_axes, trip}
use Rattle.rules.specs.Protocol.{Call, Tick, UpdateState, EmergencyStop, PollEstop, RecoverLocal, Acquire, Renew, Cancel, Submit, Reply, Observed, Executed, Recorded, Item, ItemObserve, ItemFallback, ItemRecord, Answers, Start, Idle}
use Rattle.rules.specs.Log.{History, phase_after, output_after, Took, Replied, Handed, Ended, Log, log_of, book_before, Exchange, current, next_number}
use Rattle.rules.specs.SoundStart.{Named}
use Rattle.rules.specs.Way.{Runs, Ticked}

-- the receipts with which submissions ended, newest first
unfoldable pub answered_receipts : Log → List Receipt
answered_receipts [] = []
answered_receipts (Took c ∷ l) = answered_receipts l
answered_receipts (Replied r ∷ l) = answered_receipts l
answered_receipts (Handed i ∷ l) = answered_receipts l
answered_receipts (Ended Returned ∷ l) = answered_receipts l
answered_receipts (Ended (Polled new) ∷ l) = answered_receipts l
answered_receipts (Ended Succeeded ∷ l) = answered_receipts l
answered_receipts (Ended (Leased x) ∷ l) = answered_receipts l
answered_receipts (Ended (Refused reason) ∷ l) = answered_receipts l
answered_receipts (Ended (Submitted r) ∷ l) = r ∷ answered_receipts l

-- the numbers of these receipts fall, from below n on
abbrev pub Falling : ℕ → List Receipt → Type 0
Falling n [] = Unit
Falling n (r ∷ rs) = (r.receipt_id < n) × Falling r.receipt_id rs

-- the answers that a call has
pub data AnswersTo : Call → Answer → Type 0 where
  ticks : {now : ℕ} → AnswersTo (Tick now) Returned
  updates : {flags now : ℕ} → AnswersTo (UpdateState flags now) Returned
  stops : {now : ℕ} → AnswersTo (EmergencyStop now) Returned
  polls : {raised now : ℕ} {new : Bool} → AnswersTo (PollEstop raised now) (Polled new)
  recovers : {now : ℕ} → AnswersTo (RecoverLocal now) Succeeded
  recovers-not : {now : ℕ} {reason : Reason} → AnswersTo (RecoverLocal now) (Refused reason)
  acquires : {q : LeaseRequest} {now : ℕ} {l : Lease} → AnswersTo (Acquire q now) (Leased l)
  acquires-not : {q : LeaseRequest} {now : ℕ} {reason : Reason} → AnswersTo (Acquire q now) (Refused reason)
  renews : {q : Renewal} {l : Lease} → AnswersTo (Renew q) (Leased l)
  renews-not : {q : Renewal} {reason : Reason} → AnswersTo (Renew q) (Refused reason)
  cancels : {owner id now : ℕ} → AnswersTo (Cancel owner id now) Succeeded
  cancels-not : {owner id now : ℕ} {reason : Reason} → AnswersTo (Cancel owner id now) (Refused reason)
  submits : {o : Submission} {r : Receipt} → AnswersTo (Submit o) (Submitted r)

-- the receipt is an order's, and this one's
pub record OfOrder (o : Submission) (r : Receipt) : Type 0 where
  pub decision : (r.decision ≡ Decision.Executed) ⊎ ((r.decision ≡ Decision.Rejected) ⊎ (r.decision ≡ Decision.Failed))
  pub principal : r.principal ≡ o.principal
  pub action : r.action_id ≡ o.action.action_id
  pub sequence : r.sequence ≡ o.action.sequence
  pub capability : r.capability ≡ o.action.capability
  pub lease : r.lease_id ≡ o.action.lease_id
  pub requested : r.requested ≡ o.action.parameters
  pub received : r.received_at ≡ o.received_at
  pub admitted : r.admitted_at ≡ o.now

-- an order is answered with its own receipt, which was handed out in this call; it is rejected exactly if it was not admitted
pub record OrderAnswered (x : Exchange) (r : Receipt) : Type 0 where
  pub order : Submission
  pub call : x.call ≡ Submit order
  pub own : OfOrder order r
  pub handed : Mem (ItemRecord r) x.items
  pub admitted :
      (((axis : ℕ) × Mem (ItemObserve axis) x.items) × (r.decision ≢ Decision.Rejected))
      ⊎ (((axis : ℕ) → Mem (ItemObserve axis) x.items → ⊥) × (r.decision ≡ Decision.Rejected))

-- the observation equals the parameters, or its state has the value under the mask
abbrev pub Verified : Verification → List ℤ → Observation → Type 0
Verified Parameters ps seen = seen.parameters ≡ ps
Verified (StateIs mask value) ps seen = bit_and seen.state mask ≡ value

-- 01: "observe, execute, observe, verify. Executed needs all four."
pub record AllFour (x : Exchange) (before : Book) : Type 0 where
  pub order : Submission
  pub call : x.call ≡ Submit order
  pub book : Book
  pub ticked : Ticked order.now before x book
  pub capability : Capability
  pub known : Named order.action.capability book.capabilities capability
  pub first : Observation
  pub second : Observation
  pub replies : ticked.later ≡ Observed (Some first) ∷ Executed true ∷ Observed (Some second) ∷ Recorded ∷ []
  pub verified : Verified capability.verification order.action.parameters second

-- an order changes the last sequence of its lease, and nothing else of it
pub record Sequenced (sequence : ℕ) (old new : Lease) : Type 0 where
  pub last : new.last_sequence ≡ sequence
  pub id : new.id ≡ old.id
  pub owner : new.owner ≡ old.owner
  pub resource : new.resource ≡ old.resource
  pub capabilities : new.capabilities ≡ old.capabilities
  pub limits : new.limits ≡ old.limits
  pub expires : new.expires_at ≡ old.expires_at
  pub renewal : new.last_renewal ≡ old.last_renewal

-- 01: "A Stream is active until the smaller of validity end and lease expiry, both as they were at admission, a Discrete order until its
-- lease ends; Control clears."
pub data ActiveSo (c : Capability) (o : Submission) (l : Lease) : ExecutionClass → Option Active → Type 0 where
  stream : {a : Active} → a.capability ≡ c → a.expires_at ≡ min (o.received_at + o.action.valid_for_ms) l.expires_at
      → ActiveSo c o l Class.Stream (Some a)
  discrete : {a : Active} → a.capability ≡ c → a.expires_at ≡ top → ActiveSo c o l Class.Discrete (Some a)
  control : ActiveSo c o l Class.Control None

-- what an Executed order reports, and what it leaves of the book that its tick left; the rest of that is in BookFacts and StateFacts
pub record Completed (c : Capability) (o : Submission) (first second : Observation) (before after : Book) (r : Receipt) : Type 0 where
  pub reason : r.reason ≡ Reason.Ok
  pub resource : r.resource ≡ c.resource
  pub dispatched : r.dispatched ≡ true
  pub executed-at : r.executed_at ≡ o.now
  pub pre : r.pre_state ≡ first.state
  pub seen : r.observed_valid ≡ true
  pub observed : r.observed ≡ second.parameters
  pub post : r.post_state ≡ second.state
  pub old : Lease
  pub held : lease_at before c.resource ≡ Some old
  pub new : Lease
  pub sequenced : Sequenced o.action.sequence old new
  pub leases : after.leases ≡ set before.leases c.resource (Some new)
  pub order : Option Active
  pub active_so : ActiveSo c o old c.class order
  pub active : after.active ≡ set before.active c.resource order
  pub count : after.invalid_count ≡ 0
  pub stamp : after.state_at ≡ before.state_at
  pub last_tick : after.last_tick ≡ before.last_tick
  pub next_lease : after.next_lease ≡ before.next_lease

-- which of the four failed, by the replies up to the receipt's: 16 where the driver did, 17 where the verification did
pub data FailedBy (v : Verification) (ps : List ℤ) : List Reply → Reason → Type 0 where
  unobserved : FailedBy v ps (Observed None ∷ []) Reason.Driver
  unexecuted : {first : Observation} → FailedBy v ps (Observed (Some first) ∷ Executed false ∷ []) Reason.Driver
  unobserved-after : {first : Observation} → FailedBy v ps (Observed (Some first) ∷ Executed true ∷ Observed None ∷ []) Reason.Driver
  unverified : {first second : Observation} → (Verified v ps second → ⊥)
      → FailedBy v ps (Observed (Some first) ∷ Executed true ∷ Observed (Some second) ∷ []) Reason.Verification

-- 01: "Otherwise Failed (16 or 17), receipt, trip."
pub record FailedSo (s : Start) (h : History) (x : Exchange) (before : Book) (r : Receipt) : Type 0 where
  pub order : Submission
  pub call : x.call ≡ Submit order
  pub ticked-book : Book
  pub ticked : Ticked order.now before x ticked-book
  pub capability : Capability
  pub known : Named order.action.capability ticked-book.capabilities capability
  pub steps : List Reply
  pub cause : FailedBy capability.verification order.action.parameters steps r.reason
  -- the receipt, then the trip
  pub tripping : List Reply
  pub replies : ticked.later ≡ steps ++ (Recorded ∷ tripping)
  pub first : List Item
  pub trip_items : List Item
  pub items : ticked.later_items ≡ first ++ (ItemRecord r ∷ trip_items)
  pub recorded : Book
  pub book : Book
  pub trip : Runs (trip r.reason order.now recorded (λ b. Done b (Submitted r))) tripping trip_items (Done book (Submitted r))
  pub fell-back : (axis : ℕ) → Mem axis (used_axes s.capabilities) → Mem (ItemFallback axis r.reason) trip_items
  pub left : phase_after s h ≡ Idle book
  pub state : book.state ≡ State.Faulted

-- the lease is what the call asked for, every condition of 01 holds in the book that its tick left, and its receipt says which of the two it was
pub data Asked : Call → ℕ → Book → Receipt → Lease → Type 0 where
  granted : {q : LeaseRequest} {now : ℕ} {b : Book} {r : Receipt} {l : Lease} → Grantable q now b
      → r.reason ≡ Reason.LeaseGranted → r.resource ≡ q.resource → l.id ≡ b.next_lease
      → l.owner ≡ q.owner → l.resource ≡ q.resource → l.capabilities ≡ q.capabilities → l.limits ≡ q.limits
      → l.expires_at ≡ now + q.duration_ms → l.last_sequence ≡ 0 → l.last_renewal ≡ 0 → Asked (Acquire q now) now b r l
  renewed : {q : Renewal} {b : Book} {r : Receipt} {l old : Lease} → Renewable q b r.resource old → r.reason ≡ Reason.LeaseRenewed
      → l.id ≡ q.lease_id → l.owner ≡ q.owner → l.last_renewal ≡ q.renewal
      → l.expires_at ≡ q.now + q.duration_ms → l.id ≡ old.id → l.resource ≡ old.resource → l.capabilities ≡ old.capabilities
      → l.limits ≡ old.limits → l.last_sequence ≡ old.last_sequence → Asked (Renew q) q.now b r l

-- a grant or a renewal changes the lease of its axis, a grant the next number too; the rest is in BookFacts and StateFacts
pub record LeaseLeft (r : Receipt) (l : Lease) (before after : Book) : Type 0 where
  pub leases : after.leases ≡ set before.leases r.resource (Some l)
  pub active : after.active ≡ before.active
  pub count : after.invalid_count ≡ before.invalid_count
  pub stamp : after.state_at ≡ before.state_at
  pub last_tick : after.last_tick ≡ before.last_tick
  pub next_lease :
      ((r.reason ≡ Reason.LeaseGranted) × (after.next_lease ≡ bump before.next_lease))
      ⊎ ((r.reason ≡ Reason.LeaseRenewed) × (after.next_lease ≡ before.next_lease))

-- its receipt was handed out in the call that it answers, after the tick, and it stands on the axis that the receipt names
pub record LeaseAnswered (s : Start) (h : History) (x : Exchange) (before : Book) (l : Lease) : Type 0 where
  pub now : ℕ
  pub ticked-book : Book
  pub ticked : Ticked now before x ticked-book
  pub receipt : Receipt
  pub asked : Asked x.call now ticked-book receipt l
  pub handed : ticked.later_items ≡ ItemRecord receipt ∷ []
  pub control : receipt.decision ≡ Decision.Control
  pub lease : receipt.lease_id ≡ l.id
  pub owner : receipt.principal ≡ l.owner
  pub book : Book
  pub idle : phase_after s h ≡ Idle book
  pub stands : lease_at book receipt.resource ≡ Some l
  pub rest : LeaseLeft receipt l ticked-book book

-- after every history of every start
pub record AnswerFacts (s : Start) (h : History) : Type 0 where
  pub kind : (x : Exchange) (a : Answer) → output_after s h ≡ Answers a → current (log_of s h) ≡ Some x → AnswersTo x.call a
  pub order : (x : Exchange) (r : Receipt) → output_after s h ≡ Answers (Submitted r) → current (log_of s h) ≡ Some x → OrderAnswered x r
  pub executed : (x : Exchange) (b : Book) (r : Receipt) → output_after s h ≡ Answers (Submitted r) → current (log_of s h) ≡ Some x
      → book_before s h ≡ Some b → (r.decision ≡ Decision.Executed) ↔ AllFour x b
  pub completed : (x : Exchange) (b : Book) (r : Receipt) → output_after s h ≡ Answers (Submitted r) → current (log_of s h) ≡ Some x
      → book_before s h ≡ Some b → (p : AllFour x b)
      → (after : Book) × (phase_after s h ≡ Idle after) × Completed p.capability p.order p.first p.second p.book after r
  pub failed : (x : Exchange) (b : Book) (r : Receipt) → output_after s h ≡ Answers (Submitted r) → current (log_of s h) ≡ Some x
      → book_before s h ≡ Some b → r.decision ≡ Decision.Failed → FailedSo s h x b r
  pub lease : (x : Exchange) (b : Book) (l : Lease) → output_after s h ≡ Answers (Leased l) → current (log_of s h) ≡ Some x
      → book_before s h ≡ Some b → LeaseAnswered s h x b l
  -- where all of them hold a lease is granted
  pub grants : (x : Exchange) (b : Book) (a : Answer) → output_after s h ≡ Answers a → current (log_of s h) ≡ Some x → book_before s h ≡ Some b
      → (q : LeaseRequest) (now : ℕ) → x.call ≡ Acquire q now → (book : Book) → Ticked now b x book → Grantable q now book
      → (l : Lease) × (a ≡ Leased l)
  -- the numbers of the orders' receipts rise from answer to answer, below the top of 64 bits
  pub rising : next_number (log_of s h) < top → Falling (next_number (log_of s h)) (answered_receipts (log_of s h))

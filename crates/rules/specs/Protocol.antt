-- How the host and the runtime take turns (01, "A driver call" and "A start"): calls, replies, readings, items, and the refusals 111 to 113.
use Rattle.std.specs.Prelude.{ℕ, Bool, true, false, cond, not, ◌&&◌, ◌||◌, List, [], ◌∷◌, ◌++◌, ltb, eqb, ℤ, length, replicate}
use Rattle.std.specs.Prelude.{Option, Some, None}
use Rattle.std.specs.Prelude.{slice_get}
use Rattle.model.specs.declared.Capability.{Capability}
use Rattle.model.specs.declared.Config.{Config}
use Rattle.model.specs.declared.Lease.{Lease}
use Rattle.model.specs.declared.LeaseRequest.{LeaseRequest}
use Rattle.model.specs.declared.Observation.{Observation}
use Rattle.model.specs.declared.Reason.{Reason}
use Rattle.model.specs.declared.Reason.TheVariants.{Startup}
use Rattle.model.specs.declared.Receipt.{Receipt}
use Rattle.model.specs.declared.Renewal.{Renewal}
use Rattle.model.specs.declared.RuntimeState.{RuntimeState}
use Rattle.model.specs.declared.RuntimeState.TheVariants as State
use Rattle.model.specs.declared.Snapshot.{Snapshot}
use Rattle.model.specs.declared.Submission.{Submission}
use Rattle.model.specs.Reasons.{invalid_boot_id, invalid_config, invalid_capability, duplicate_capability, startup_failed, reply_awaited, no_reply_awaited, other_reply_awaited}
use Rattle.model.specs.Soundness.{sound, id_taken}
use Rattle.rules.specs.Book.{Book, lease_at}
use Rattle.rules.specs.Interaction.{Answer, Returned, Interaction, Done, Observe, Execute, Fallback, Record}
use Rattle.rules.specs.Rules.{used_axes, meets_estop, tick, update_state, emergency_stop, poll_estop, recover_local, acquire, renew, cancel, submit}

-- what goes in and what comes out ------------------------------------------------------------------------------------

pub data Call : Type 0 where
  Tick : ℕ → Call  -- time
  UpdateState : ℕ → ℕ → Call  -- flags, time
  EmergencyStop : ℕ → Call  -- time
  PollEstop : ℕ → ℕ → Call  -- raise number, time
  RecoverLocal : ℕ → Call  -- time
  Acquire : LeaseRequest → ℕ → Call  -- request, time
  Renew : Renewal → Call
  Cancel : ℕ → ℕ → ℕ → Call  -- owner, lease, time
  Submit : Submission → Call

pub data Reply : Type 0 where
  Observed : Option Observation → Reply  -- none: the driver failed
  Executed : Bool → Reply  -- whether the driver succeeded
  FellBack : Bool → Reply
  Recorded : Reply

pub data Reading : Type 0 where
  ReadState ReadEpoch ReadBootId ReadFlags ReadReceiptCount ReadConfig ReadSnapshot : Reading
  ReadLease : ℕ → Reading  -- axis
  ReadCapability : ℕ → Reading  -- index
  ReadReceipt : ℕ → Reading  -- index, the oldest first

pub data Input : Type 0 where
  Calls : Call → Input
  Replies : Reply → Input
  Reads : Reading → Input

pub data Item : Type 0 where
  ItemObserve : ℕ → Item  -- axis
  ItemExecute : ℕ → List ℤ → Item  -- capability, parameters
  ItemFallback : ℕ → Reason → Item  -- axis, reason
  ItemRecord : Receipt → Item

-- what a reading shows
pub data Value : Type 0 where
  OfState : RuntimeState → Value
  OfNumber : ℕ → Value
  OfConfig : Config → Value
  OfSnapshot : Snapshot → Value
  OfLease : Option Lease → Value
  OfCapability : Option Capability → Value
  OfReceipt : Option Receipt → Value

pub data Output : Type 0 where
  Started : Output  -- the start is over: there is a runtime
  StartRefused : ℕ → Output  -- 101 to 105: there is none
  Hands : Item → Output
  Answers : Answer → Output
  Reminds : ℕ → Item → Output  -- 111 or 113, with the awaited item again
  Refuses : ℕ → Output  -- 112
  Shows : Value → Output
  NoRuntime : Output  -- nothing to call or to read: the start goes on, or was refused

-- a start ------------------------------------------------------------------------------------------------------------

pub record Start : Type 0 where
  pub config : Config
  pub capabilities : List Capability
  pub boot_id : ℕ
  pub now : ℕ
  pub flags : ℕ

-- 01: "It leaves epoch 1, next receipt 1, next lease 1, raise number seen 0, last tick and state stamp at its time .., and state Estopped
-- if the first flags meet `estop_mask`, else SafeIdle."
unfoldable pub opening : Start → Book
opening s =
    record {
      config = s.config;
      boot_id = s.boot_id;
      capabilities = s.capabilities;
      leases = replicate 8 None;
      active = replicate 8 None;
      replay = [];
      receipts = [];
      next_receipt = 1;
      next_lease = 1;
      epoch = 1;
      flags = s.flags;
      state_at = s.now;
      last_tick = s.now;
      state = cond (meets_estop s.flags s.config) State.Estopped State.SafeIdle;
      invalid_count = 0;
      estop_seen = 0;
    }

-- 01: "list empty or above 16, or one of the six `Config` fields 0"
unfoldable pub bad_config : Config → ℕ → Bool
bad_config c count =
    eqb count 0
    || (ltb 16 count
    || (eqb c.watchdog_ms 0
    || (eqb c.state_ttl_ms 0
    || (eqb c.max_lease_ms 0
    || (eqb c.max_valid_for_ms 0 || (eqb c.invalid_limit 0 || eqb c.estop_mask 0))))))

-- 01: "then each record in list order, its own conditions before its id is compared with earlier ones"
unfoldable pub refused_record : List Capability → List Capability → Option ℕ
refused_record earlier [] = None
refused_record earlier (c ∷ rest) =
    cond (not (sound c)) (Some invalid_capability)
    (cond (id_taken earlier c.id) (Some duplicate_capability) (refused_record (earlier ++ (c ∷ [])) rest))

-- 01: "Checks in order: boot number; configuration; then each record in list order"
unfoldable pub refused_start : Start → Option ℕ
refused_start s =
    cond (eqb s.boot_id 0) (Some invalid_boot_id)
    (cond (bad_config s.config (length s.capabilities)) (Some invalid_config) (refused_record [] s.capabilities))

-- where the runtime stands between two inputs ------------------------------------------------------------------------

-- an item whose reply is awaited, the book that readings see, and what follows each reply
pub data Wait : Type 0 where
  OnObserve : ℕ → Book → (Option Observation → Interaction) → Wait
  OnExecute : ℕ → List ℤ → Book → (Bool → Interaction) → Wait
  OnFallback : ℕ → Reason → Book → (Bool → Interaction) → Wait
  OnRecord : Receipt → Book → Interaction → Wait

pub data Phase : Type 0 where
  Starting : Start → ℕ → List ℕ → Bool → Phase  -- the axis that is tried, those to come, no failure so far
  Gone : Phase  -- the start was refused
  Idle : Book → Phase
  Waiting : Wait → Phase

unfoldable pub item_of : Wait → Item
item_of (OnObserve axis b k) = ItemObserve axis
item_of (OnExecute capability parameters b k) = ItemExecute capability parameters
item_of (OnFallback axis reason b k) = ItemFallback axis reason
item_of (OnRecord r b k) = ItemRecord r

unfoldable pub wait_book : Wait → Book
wait_book (OnObserve axis b k) = b
wait_book (OnExecute capability parameters b k) = b
wait_book (OnFallback axis reason b k) = b
wait_book (OnRecord r b k) = b

-- the book that readings see: "until it ends there is no runtime to read"
unfoldable pub book_in : Phase → Option Book
book_in (Starting s axis rest good) = None
book_in Gone = None
book_in (Idle b) = Some b
book_in (Waiting w) = Some (wait_book w)

-- the item whose reply is awaited
abbrev pub awaited_in : Phase → Option Item
awaited_in (Starting s axis rest good) = Some (ItemFallback axis Startup)
awaited_in Gone = None
awaited_in (Idle b) = None
awaited_in (Waiting w) = Some (item_of w)

-- what follows a reply, if it is of the awaited kind
unfoldable pub resume : Wait → Reply → Option Interaction
resume (OnObserve axis b k) (Observed seen) = Some (k seen)
resume (OnObserve axis b k) (Executed ok) = None
resume (OnObserve axis b k) (FellBack ok) = None
resume (OnObserve axis b k) Recorded = None
resume (OnExecute c p b k) (Observed seen) = None
resume (OnExecute c p b k) (Executed ok) = Some (k ok)
resume (OnExecute c p b k) (FellBack ok) = None
resume (OnExecute c p b k) Recorded = None
resume (OnFallback axis reason b k) (Observed seen) = None
resume (OnFallback axis reason b k) (Executed ok) = None
resume (OnFallback axis reason b k) (FellBack ok) = Some (k ok)
resume (OnFallback axis reason b k) Recorded = None
resume (OnRecord r b k) (Observed seen) = None
resume (OnRecord r b k) (Executed ok) = None
resume (OnRecord r b k) (FellBack ok) = None
resume (OnRecord r b k) Recorded = Some k

-- readings -----------------------------------------------------------------------------------------------------------

unfoldable pub lease_count : List (Option Lease) → ℕ
lease_count ls = length (present ls)
  where
    present : List (Option Lease) → List Lease
    present [] = []
    present (None ∷ ls) = present ls
    present (Some l ∷ ls) = l ∷ present ls

unfoldable pub snapshot : Book → Snapshot
snapshot b =
    record {
      boot_id = b.boot_id;
      epoch = b.epoch;
      now = b.last_tick;
      sensor_tick = b.state_at;
      flags = b.flags;
      state = b.state;
      active_leases = lease_count b.leases;
      retained_receipts = length b.receipts;
      next_receipt_id = b.next_receipt;
    }

-- 01: "`lease` with axis 8 or more and `receipt` with an index at or past the count return none."
unfoldable pub read : Reading → Book → Value
read ReadState b = OfState b.state
read ReadEpoch b = OfNumber b.epoch
read ReadBootId b = OfNumber b.boot_id
read ReadFlags b = OfNumber b.flags
read ReadReceiptCount b = OfNumber (length b.receipts)
read ReadConfig b = OfConfig b.config
read ReadSnapshot b = OfSnapshot (snapshot b)
read (ReadLease axis) b = OfLease (lease_at b axis)
read (ReadCapability i) b = OfCapability (slice_get b.capabilities i)
read (ReadReceipt i) b = OfReceipt (slice_get b.receipts i)

-- turns --------------------------------------------------------------------------------------------------------------

-- what a call does
unfoldable pub begin : Call → Book → Interaction
begin (Tick now) b = tick now b (λ b'. Done b' Returned)
begin (UpdateState flags now) b = update_state flags now b
begin (EmergencyStop now) b = emergency_stop now b (λ b'. Done b' Returned)
begin (PollEstop raised now) b = poll_estop raised now b
begin (RecoverLocal now) b = recover_local now b
begin (Acquire r now) b = acquire r now b
begin (Renew r) b = renew r b
begin (Cancel owner id now) b = cancel owner id now b
begin (Submit s) b = submit s b

pub record Reaction : Type 0 where
  pub output : Output
  pub phase : Phase

-- an interaction runs to its first item or its end
unfoldable pub proceed : Interaction → Reaction
proceed (Done b a) = record { output = Answers a; phase = Idle b }
proceed (Observe axis b k) = record { output = Hands (ItemObserve axis); phase = Waiting (OnObserve axis b k) }
proceed (Execute c p b k) = record { output = Hands (ItemExecute c p); phase = Waiting (OnExecute c p b k) }
proceed (Fallback axis reason b k) = record { output = Hands (ItemFallback axis reason); phase = Waiting (OnFallback axis reason b k) }
proceed (Record r b k) = record { output = Hands (ItemRecord r); phase = Waiting (OnRecord r b k) }

-- 01: "then `fallback(axis, Startup)` on every used axis, rising, all tried even after a failure"
unfoldable pub start_from : Start → List ℕ → Bool → Reaction
start_from s (axis ∷ rest) good = record { output = Hands (ItemFallback axis Startup); phase = Starting s axis rest good }
start_from s [] true = record { output = Started; phase = Idle (opening s) }
start_from s [] false = record { output = StartRefused startup_failed; phase = Gone }

unfoldable pub start_unless : Option ℕ → Start → Reaction
start_unless (Some number) s = record { output = StartRefused number; phase = Gone }
start_unless None s = start_from s (used_axes s.capabilities) true

unfoldable pub start : Start → Reaction
start s = start_unless (refused_start s) s

-- an input leaves the phase as it was, with an output, or it takes effect
pub data Effect : Type 0 where
  Stays : Output → Effect
  Moves : Reaction → Effect

unfoldable pub called : Call → Phase → Effect
called c (Starting s axis rest good) = Stays (Reminds reply_awaited (ItemFallback axis Startup))
called c Gone = Stays NoRuntime
called c (Idle b) = Moves (proceed (begin c b))
called c (Waiting w) = Stays (Reminds reply_awaited (item_of w))

unfoldable pub resumed : Option Interaction → Item → Effect
resumed (Some t) item = Moves (proceed t)
resumed None item = Stays (Reminds other_reply_awaited item)

unfoldable pub start_replied : Reply → Start → ℕ → List ℕ → Bool → Effect
start_replied (FellBack ok) s axis rest good = Moves (start_from s rest (good && ok))
start_replied (Observed seen) s axis rest good = Stays (Reminds other_reply_awaited (ItemFallback axis Startup))
start_replied (Executed ok) s axis rest good = Stays (Reminds other_reply_awaited (ItemFallback axis Startup))
start_replied Recorded s axis rest good = Stays (Reminds other_reply_awaited (ItemFallback axis Startup))

unfoldable pub replied : Reply → Phase → Effect
replied r (Starting s axis rest good) = start_replied r s axis rest good
replied r Gone = Stays (Refuses no_reply_awaited)
replied r (Idle b) = Stays (Refuses no_reply_awaited)
replied r (Waiting w) = resumed (resume w r) (item_of w)

unfoldable pub shown : Reading → Option Book → Output
shown q None = NoRuntime
shown q (Some b) = Shows (read q b)

unfoldable pub effect : Phase → Input → Effect
effect p (Calls c) = called c p
effect p (Replies r) = replied r p
effect p (Reads q) = Stays (shown q (book_in p))

unfoldable pub apply : Phase → Effect → Reaction
apply p (Stays out) = record { output = out; phase = p }
apply p (Moves r) = r

unfoldable pub react : Phase → Input → Reaction
react p i = apply p (effect p i)

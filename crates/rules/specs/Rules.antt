-- The rules, under the names and in the order of runtime.rs: each is a function on the book that hands out items and goes on with the
-- reply. A rule that others build on takes what follows it as `next`.
use Rattle.std.specs.Prelude.{ℕ, ◌+◌, ◌-◌, min, max, Bool, true, false, cond, not, ◌&&◌, ◌||◌, List, [], ◌∷◌, ltb, leb, eqb, ℤ, take, set}
use Rattle.std.specs.Prelude.{Option, Some, None}
use Rattle.std.specs.Int.Bits.{bit_and, bit_or}
use Rattle.std.specs.Int.Signed.{le_z}
use Rattle.model.specs.declared.Active.{Active}
use Rattle.model.specs.declared.Capability.{Capability}
use Rattle.model.specs.declared.Config.{Config}
use Rattle.model.specs.declared.Decision.TheVariants as Decision
use Rattle.model.specs.declared.ExecutionClass.{ExecutionClass}
use Rattle.model.specs.declared.ExecutionClass.TheVariants.{Stream, Discrete, Control}
use Rattle.model.specs.declared.Lease.{Lease}
use Rattle.model.specs.declared.LeaseRequest.{LeaseRequest}
use Rattle.model.specs.declared.Observation.{Observation}
use Rattle.model.specs.declared.Reason.{Reason}
use Rattle.model.specs.declared.Receipt.{Receipt}
use Rattle.model.specs.declared.Renewal.{Renewal}
use Rattle.model.specs.declared.Replay.{Replay}
use Rattle.model.specs.declared.RuntimeState.{RuntimeState}
use Rattle.model.specs.declared.RuntimeState.TheVariants as State
use Rattle.model.specs.declared.Submission.{Submission}
use Rattle.model.specs.declared.Verification.{Verification}
use Rattle.model.specs.declared.Verification.TheVariants.{Parameters, State as StateIs}
use Rattle.model.specs.Lists.{any}
use Rattle.model.specs.Reasons.{number}
use Rattle.model.specs.Soundness.{axis_used}
use Rattle.model.specs.Words.{share_no_bit, permits}
use Rattle.rules.specs.Book.{Book, lease_at, active_at}
use Rattle.rules.specs.With.{with_leases, with_active, with_replay, with_next_lease, with_epoch, with_flags, with_state_at, with_last_tick, with_state, with_invalid_count, with_estop_seen}
use Rattle.rules.specs.Receipts.{top, bump_to, bump, kept, numbered, event, Progress, not_sent, order_receipt}
use Rattle.rules.specs.Interaction.{Returned, Polled, Succeeded, Leased, Refused, Submitted, Interaction, Done, Observe, Execute, Fallback, Record}
use Rattle.rules.specs.Admission.{first_failing, is_armed, is_estopped, is_stale, axes, is_some, holds_of, acquire_checks, renew_checks, held_axis, held_lease, order_capability, replayed, valid_until, Verdict, Admits, Rejects, validate}

-- 01: "An axis is used if a capability names it."
unfoldable pub select : (ℕ → Bool) → List ℕ → List ℕ
select p [] = []
select p (i ∷ is) = cond (p i) (i ∷ select p is) (select p is)

unfoldable pub used_axes : List Capability → List ℕ
used_axes cs = select (axis_used cs) axes

-- bump_epoch, record, refresh_state ----------------------------------------------------------------------------------

unfoldable pub bump_epoch : Book → Book
bump_epoch b = with_epoch (bump b.epoch) b

-- a receipt takes the next number, is kept, and is handed out
unfoldable pub record_receipt : Receipt → Book → (Receipt → Book → Interaction) → Interaction
record_receipt r b next =
    let r' = numbered b.next_receipt r in
    Record r' (kept r' b) (next r' (kept r' b))

-- 01: "Unless Faulted or Estopped, the state becomes Armed if any lease stands, else SafeIdle"
unfoldable pub refreshed : Bool → RuntimeState → RuntimeState
refreshed leased State.SafeIdle = cond leased State.Armed State.SafeIdle
refreshed leased State.Armed = cond leased State.Armed State.SafeIdle
refreshed leased State.Faulted = State.Faulted
refreshed leased State.Estopped = State.Estopped

unfoldable pub refresh_state : Book → Book
refresh_state b = with_state (refreshed (any is_some b.leases) b.state) b

-- fallback and trip (01, "A trip or a fallback") ---------------------------------------------------------------------

-- 01: "lease and active order cleared, epoch plus 1"
unfoldable pub cleared : ℕ → Book → Book
cleared axis b = bump_epoch (with_leases (set b.leases axis None) (with_active (set b.active axis None) b))

unfoldable pub lease_id : Option Lease → ℕ
lease_id None = 0
lease_id (Some l) = l.id

unfoldable pub lease_owner : Option Lease → ℕ
lease_owner None = 0
lease_owner (Some l) = l.owner

-- 01: ".. driver called, receipt written (reason 16 if the driver failed)"
unfoldable pub fallback : ℕ → Reason → ℕ → Book → (Bool → Book → Interaction) → Interaction
fallback axis reason now b next =
    Fallback axis reason (cleared axis b)
    (λ ok.
    record_receipt
    (event axis (lease_id (lease_at b axis)) (lease_owner (lease_at b axis)) Decision.Fallback (cond ok reason Reason.Driver) now (cleared axis b))
    (cleared axis b)
    (λ r b'. next ok b'))

-- 01: "Estopped if the reason is Estop or it already was, else Faulted"
unfoldable pub tripped : Reason → RuntimeState → RuntimeState
tripped reason s = cond (eqb (number reason) (number Reason.Estop) || is_estopped s) State.Estopped State.Faulted

-- fallbacks on these axes, in order, failures passed over
unfoldable pub fallbacks : List ℕ → Reason → ℕ → Book → (Book → Interaction) → Interaction
fallbacks [] reason now b next = next b
fallbacks (axis ∷ rest) reason now b next = fallback axis reason now b (λ ok b'. fallbacks rest reason now b' next)

-- 01: "Trip: state first .. then every used axis, failures passed over."
unfoldable pub trip : Reason → ℕ → Book → (Book → Interaction) → Interaction
trip reason now b next = fallbacks (used_axes b.capabilities) reason now (with_state (tripped reason b.state) b) next

-- a fallback that trips with Driver where it fails
unfoldable pub fallback_or_trip : ℕ → Reason → ℕ → Book → (Book → Interaction) → Interaction
fallback_or_trip axis reason now b next = fallback axis reason now b (λ ok b'. cond ok (next b') (trip Reason.Driver now b' next))

-- tick ---------------------------------------------------------------------------------------------------------------

-- 01: "Epoch, next receipt or next lease at the top"
unfoldable pub exhausted : Book → Bool
exhausted b = eqb b.epoch top || (eqb b.next_receipt top || eqb b.next_lease top)

-- 01: "Gap over `watchdog_ms` while Armed: trip 13."
unfoldable pub watchdog : ℕ → Book → (Book → Interaction) → Interaction
watchdog now b next =
    cond (ltb b.config.watchdog_ms (now - b.last_tick) && is_armed b.state) (trip Reason.Watchdog now b next) (next b)

-- 01: "State age ≥ `state_ttl_ms` while Armed: trip 22."
unfoldable pub staleness : ℕ → Book → (Book → Interaction) → Interaction
staleness now b next = cond (is_stale now b && is_armed b.state) (trip Reason.StateStale now b next) (next b)

-- 01: "14 if now ≥ lease expiry, else 15 for the active order"
unfoldable pub due : ℕ → Option Lease → Option Active → Option Reason
due now lease active =
    cond (holds_of lease (λ l. leb l.expires_at now)) (Some Reason.LeaseExpired)
    (cond (holds_of active (λ a. leb a.expires_at now)) (Some Reason.StreamExpired) None)

unfoldable pub fallback_if : Option Reason → ℕ → ℕ → Book → (Book → Interaction) → Interaction
fallback_if None axis now b next = next b
fallback_if (Some reason) axis now b next = fallback_or_trip axis reason now b next

-- 01: "Then per axis .. a failed fallback trips 16."
unfoldable pub expiries : List ℕ → ℕ → Book → (Book → Interaction) → Interaction
expiries [] now b next = next b
expiries (axis ∷ rest) now b next =
    fallback_if (due now (lease_at b axis) (active_at b axis)) axis now b (λ b'. expiries rest now b' next)

-- the part of a tick that follows its two returns
unfoldable pub supervise : ℕ → Book → (Book → Interaction) → Interaction
supervise now b next =
    watchdog now b
    (λ b₁. staleness now (with_last_tick now b₁) (λ b₂. expiries axes now b₂ (λ b₃. next (refresh_state b₃))))

-- 01: "now before last tick: trip 18 and return, last tick unchanged. Epoch, next receipt or next lease at the top: trip 12 and return."
unfoldable pub tick : ℕ → Book → (Book → Interaction) → Interaction
tick now b next =
    cond (ltb now b.last_tick) (trip Reason.Clock now b next)
    (cond (exhausted b) (trip Reason.Faulted now b next) (supervise now b next))

-- update_state -------------------------------------------------------------------------------------------------------

-- 01: "active orders that flags forbid fall back with 5, and a failed one trips 16"
unfoldable pub preconditions : List ℕ → ℕ → Book → (Book → Interaction) → Interaction
preconditions [] now b next = next b
preconditions (axis ∷ rest) now b next =
    cond (holds_of (active_at b axis) (λ a. not (permits a.capability b.flags)))
    (fallback_or_trip axis Reason.Precondition now b (λ b'. preconditions rest now b' next))
    (preconditions rest now b next)

-- a bit of the stop mask stands in the flags
unfoldable pub meets_estop : ℕ → Config → Bool
meets_estop flags config = not (share_no_bit flags config.estop_mask)

-- 01: "new flags bump the epoch"
unfoldable pub flagged : ℕ → Book → Book
flagged flags b = bump_epoch (with_flags flags b)

-- 01: "an estop bit trips 11; else active orders .."
unfoldable pub new_flags : ℕ → ℕ → Book → Interaction
new_flags flags now b =
    cond (meets_estop flags b.config) (trip Reason.Estop now (flagged flags b) (λ b'. Done b' Returned))
    (preconditions axes now (flagged flags b) (λ b'. Done (refresh_state b') Returned))

-- 01: "return if now is before last tick; stamp; equal flags end it"
unfoldable pub sense : ℕ → ℕ → Book → Interaction
sense flags now b =
    cond (ltb now b.last_tick) (Done b Returned)
    (cond (eqb flags b.flags) (Done (with_state_at now b) Returned) (new_flags flags now (with_state_at now b)))

unfoldable pub update_state : ℕ → ℕ → Book → Interaction
update_state flags now b = tick now b (sense flags now)

-- emergency_stop, poll_estop -----------------------------------------------------------------------------------------

-- the larger time
unfoldable pub stop_time : ℕ → Book → ℕ
stop_time now b = max b.last_tick now

-- 01: "sets last tick to the larger time and ORs the mask into flags, without bumping for that"
unfoldable pub masked : ℕ → Book → Book
masked now b = with_flags (bit_or b.flags b.config.estop_mask) (with_last_tick (stop_time now b) b)

-- 01: "then trips 11 at that larger time"
unfoldable pub emergency_stop : ℕ → Book → (Book → Interaction) → Interaction
emergency_stop now b next = trip Reason.Estop (stop_time now b) (masked now b) next

-- 01: "a poll sees it exactly when it differs from the number last seen"
unfoldable pub poll_estop : ℕ → ℕ → Book → Interaction
poll_estop raised now b =
    cond (eqb raised b.estop_seen) (Done b (Polled false))
    (emergency_stop now (with_estop_seen raised b) (λ b'. Done b' (Polled true)))

-- recover_local ------------------------------------------------------------------------------------------------------

-- 01: "any failure gives Faulted and 16, else SafeIdle"
unfoldable pub recovered : Bool → Book → Interaction
recovered true b = Done (with_invalid_count 0 (with_state State.SafeIdle b)) Succeeded
recovered false b = Done (with_state State.Faulted b) (Refused Reason.Driver)

-- 01: "fallbacks 26 on all used axes, even after a failure"
unfoldable pub recoveries : List ℕ → Bool → ℕ → Book → Interaction
recoveries [] good now b = recovered good b
recoveries (axis ∷ rest) good now b = fallback axis Reason.Recovered now b (λ ok b'. recoveries rest (good && ok) now b')

-- 01: "11 if mask meets flags; 5 if now is before last tick, state stale, or a counter at the top"
unfoldable pub recover : ℕ → Book → Interaction
recover now b =
    cond (meets_estop b.flags b.config) (Done b (Refused Reason.Estop))
    (cond (ltb now b.last_tick || (is_stale now b || exhausted b)) (Done b (Refused Reason.Precondition))
    (recoveries (used_axes b.capabilities) true now b))

unfoldable pub recover_local : ℕ → Book → Interaction
recover_local now b = tick now b (recover now)

-- acquire (01, "A lease") --------------------------------------------------------------------------------------------

unfoldable pub new_lease : LeaseRequest → ℕ → ℕ → Lease
new_lease r id now =
    record {
      id = id;
      owner = r.owner;
      resource = r.resource;
      capabilities = r.capabilities;
      expires_at = now + r.duration_ms;
      limits = r.limits;
      last_sequence = 0;
      last_renewal = 0;
    }

-- 01: "A grant bumps the epoch."
unfoldable pub granted : Lease → Book → Book
granted l b =
    refresh_state (bump_epoch (with_leases (set b.leases l.resource (Some l)) (with_next_lease (bump b.next_lease) b)))

-- the receipt of a grant or a renewal, and the lease as the answer
unfoldable pub leased : ℕ → Lease → Reason → ℕ → Book → Interaction
leased axis l reason now b =
    record_receipt (event axis l.id l.owner Decision.Control reason now b) b (λ r b'. Done b' (Leased l))

unfoldable pub grant : Option Reason → LeaseRequest → ℕ → Book → Interaction
grant (Some reason) r now b = Done b (Refused reason)
grant None r now b =
    let l = new_lease r b.next_lease now in
    leased r.resource l Reason.LeaseGranted now (granted l b)

unfoldable pub acquire : LeaseRequest → ℕ → Book → Interaction
acquire r now b = tick now b (λ b'. grant (first_failing (acquire_checks r now b')) r now b')

-- renew --------------------------------------------------------------------------------------------------------------

unfoldable pub extended : Renewal → Lease → Lease
extended r l =
    record {
      id = l.id;
      owner = l.owner;
      resource = l.resource;
      capabilities = l.capabilities;
      expires_at = r.now + r.duration_ms;
      limits = l.limits;
      last_sequence = l.last_sequence;
      last_renewal = r.renewal;
    }

-- 01: "It leaves the epoch and may shorten the lease."
unfoldable pub extend : Renewal → Option ℕ → Option Lease → Book → Interaction
extend r (Some axis) (Some l) b =
    leased axis (extended r l) Reason.LeaseRenewed r.now (with_leases (set b.leases axis (Some (extended r l))) b)
extend r (Some axis) None b = Done b (Refused Reason.Authority)
extend r None l b = Done b (Refused Reason.Authority)

unfoldable pub renewed : Option Reason → Renewal → Book → Interaction
renewed (Some reason) r b = Done b (Refused reason)
renewed None r b = extend r (held_axis r.owner r.lease_id b) (held_lease r.owner r.lease_id b) b

unfoldable pub renew : Renewal → Book → Interaction
renew r b = tick r.now b (λ b'. renewed (first_failing (renew_checks r b')) r b')

-- cancel -------------------------------------------------------------------------------------------------------------

-- 01: "tick, 3, then fallback; on failure a Driver trip and 16"
unfoldable pub canceled : Option ℕ → ℕ → Book → Interaction
canceled None now b = Done b (Refused Reason.Authority)
canceled (Some axis) now b =
    fallback axis Reason.Canceled now b
    (λ ok b'. cond ok (Done (refresh_state b') Succeeded) (trip Reason.Driver now b' (λ b''. Done b'' (Refused Reason.Driver))))

unfoldable pub cancel : ℕ → ℕ → ℕ → Book → Interaction
cancel owner id now b = tick now b (λ b'. canceled (held_axis owner id b') now b')

-- submit (01, "An order") --------------------------------------------------------------------------------------------

unfoldable pub receipt_number : Option Replay → ℕ
receipt_number None = 0
receipt_number (Some e) = e.receipt

-- 01: "A duplicate's `original_receipt` is the number of the receipt that consumed the id"
unfoldable pub original : Reason → Submission → Book → ℕ
original reason s b = cond (eqb (number reason) (number Reason.Duplicate)) (receipt_number (replayed s b)) 0

-- 01: "at or above `invalid_limit` while Armed it trips 21, after its receipt"
unfoldable pub storm : ℕ → Receipt → Book → Interaction
storm now r b =
    cond (leb b.config.invalid_limit b.invalid_count && is_armed b.state)
    (trip Reason.InvalidStorm now b (λ b'. Done b' (Submitted r)))
    (Done b (Submitted r))

-- 01: "A rejection adds 1 to a saturating count"
unfoldable pub reject : Reason → Submission → Book → Interaction
reject reason s b =
    record_receipt (order_receipt s (order_capability s b) Decision.Rejected reason (original reason s b) not_sent b)
    (with_invalid_count (bump_to 65535 b.invalid_count) b)
    (storm s.now)

unfoldable pub with_sequence : ℕ → Lease → Lease
with_sequence sequence l =
    record {
      id = l.id;
      owner = l.owner;
      resource = l.resource;
      capabilities = l.capabilities;
      expires_at = l.expires_at;
      limits = l.limits;
      last_sequence = sequence;
      last_renewal = l.last_renewal;
    }

abbrev pub replay_capacity : ℕ
replay_capacity = 32

-- 01: "Then sequence and replay entry are stored, and only then: observe, execute, observe, verify."
unfoldable pub consumed : Capability → Lease → Submission → Book → Book
consumed c l s b =
    with_replay
    (take replay_capacity (record { owner = s.principal; action_id = s.action.action_id; receipt = b.next_receipt } ∷ b.replay))
    (with_leases (set b.leases c.resource (Some (with_sequence s.action.sequence l))) b)

-- 01: "Otherwise Failed (16 or 17), receipt, trip."
unfoldable pub fail : Capability → Reason → Progress → Submission → Book → Interaction
fail c reason p s b =
    record_receipt (order_receipt s (Some c) Decision.Failed reason 0 p b) b
    (λ r b'. trip reason s.now b' (λ b''. Done b'' (Submitted r)))

-- 01: "A Stream is active until the smaller of validity end and lease expiry, both as they were at admission, a Discrete order until
-- its lease ends; Control clears."
unfoldable pub stream_end : Lease → Submission → ℕ
stream_end l s = min (valid_until s) l.expires_at

unfoldable pub active_until : Capability → ExecutionClass → ℕ → Option Active
active_until c Stream end = Some (record { capability = c; expires_at = end })
active_until c Discrete end = Some (record { capability = c; expires_at = top })
active_until c Control end = None

unfoldable pub complete : Capability → ℕ → Progress → Submission → Book → Interaction
complete c end p s b =
    record_receipt (order_receipt s (Some c) Decision.Executed Reason.Ok 0 p b)
    (with_active (set b.active c.resource (active_until c c.class end)) (with_invalid_count 0 b))
    (λ r b'. Done b' (Submitted r))

unfoldable pub same_parameters : List ℤ → List ℤ → Bool
same_parameters [] [] = true
same_parameters [] (y ∷ ys) = false
same_parameters (x ∷ xs) [] = false
same_parameters (x ∷ xs) (y ∷ ys) = (le_z x y && le_z y x) && same_parameters xs ys

-- the observation equals the parameters, or its state has the value under the mask
unfoldable pub verified : Verification → List ℤ → Observation → Bool
verified Parameters parameters seen = same_parameters seen.parameters parameters
verified (StateIs mask value) parameters seen = eqb (bit_and seen.state mask) value

-- the observation after the execution, which the driver may fail to bring
unfoldable pub verify : Capability → ℕ → ℕ → Submission → Book → Option Observation → Interaction
verify c end before s b None =
    fail c Reason.Driver
    (record { dispatched = true; pre_state = before; executed_at = s.now; observed_valid = false; observed = not_sent.observed; post_state = 0 }) s b
verify c end before s b (Some seen) =
    let p : Progress = record { dispatched = true; pre_state = before; executed_at = s.now; observed_valid = true; observed = seen.parameters; post_state = seen.state } in
    cond (verified c.verification s.action.parameters seen) (complete c end p s b) (fail c Reason.Verification p s b)

-- the observation before the execution, which the driver may fail to bring
unfoldable pub dispatch : Capability → ℕ → Submission → Book → Option Observation → Interaction
dispatch c end s b None = fail c Reason.Driver not_sent s b
dispatch c end s b (Some seen) =
    Execute c.id s.action.parameters b
    (λ ok.
    cond ok (Observe c.resource b (verify c end seen.state s b))
    (fail c Reason.Driver
    (record { dispatched = true; pre_state = seen.state; executed_at = 0; observed_valid = false; observed = not_sent.observed; post_state = 0 }) s b))

unfoldable pub admit : Verdict → Submission → Book → Interaction
admit (Rejects reason) s b = reject reason s b
admit (Admits c l) s b = Observe c.resource (consumed c l s b) (dispatch c (stream_end l s) s (consumed c l s b))

unfoldable pub submit : Submission → Book → Interaction
submit s b = tick s.now b (λ b'. admit (validate s b') s b')

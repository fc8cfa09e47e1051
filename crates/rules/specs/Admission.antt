-- Readiness, and the checks of acquire, renew and submit: lists in 01's order, of which the first that fails gives the reason.
use Rattle.std.specs.Prelude.{ℕ, ◌+◌, ◌-◌, ◌^◌, Bool, true, false, cond, not, ◌&&◌, ◌||◌, List, [], ◌∷◌, ◌++◌, ltb, leb, eqb, ℤ}
use Rattle.std.specs.Prelude.{Option, Some, None}
use Rattle.std.specs.Int.Bits.{bit_or}
use Rattle.model.specs.declared.Bounds.{Bounds}
use Rattle.model.specs.declared.Capability.{Capability}
use Rattle.model.specs.declared.Lease.{Lease}
use Rattle.model.specs.declared.LeaseRequest.{LeaseRequest}
use Rattle.model.specs.declared.Reason.{Reason}
use Rattle.model.specs.declared.Reason.TheVariants.{Bound, Stale, Authority, Duplicate, Precondition, OldSequence, Epoch, UnknownCapability, TooEarly, Invalid, Estop, Faulted, Clock, Busy, StateStale, BootMismatch}
use Rattle.model.specs.declared.Renewal.{Renewal}
use Rattle.model.specs.declared.Replay.{Replay}
use Rattle.model.specs.declared.RuntimeState.{RuntimeState}
use Rattle.model.specs.declared.RuntimeState.TheVariants as State
use Rattle.model.specs.declared.Submission.{Submission}
use Rattle.model.specs.Lists.{all}
use Rattle.model.specs.Bounds.{contains, ordered}
use Rattle.model.specs.Words.{share_no_bit, inside, permits}
use Rattle.model.specs.Soundness.{axis_used}
use Rattle.rules.specs.Book.{Book, lease_at}
use Rattle.rules.specs.Receipts.{top}

pub record Check : Type 0 where
  pub holds : Bool
  pub reason : Reason

abbrev pub check : Bool → Reason → Check
check holds reason = record { holds = holds; reason = reason }

-- the reason of the first check that fails
unfoldable pub first_failing : List Check → Option Reason
first_failing [] = None
first_failing (c ∷ cs) = cond c.holds (first_failing cs) (Some c.reason)

-- there is such a thing, and it passes the test
unfoldable pub holds_of : {A : Type 0} → Option A → (A → Bool) → Bool
holds_of None test = false
holds_of (Some a) test = test a

-- states -------------------------------------------------------------------------------------------------------------

unfoldable pub is_estopped : RuntimeState → Bool
is_estopped State.SafeIdle = false
is_estopped State.Armed = false
is_estopped State.Faulted = false
is_estopped State.Estopped = true

unfoldable pub is_faulted : RuntimeState → Bool
is_faulted State.SafeIdle = false
is_faulted State.Armed = false
is_faulted State.Faulted = true
is_faulted State.Estopped = false

unfoldable pub is_armed : RuntimeState → Bool
is_armed State.SafeIdle = false
is_armed State.Armed = true
is_armed State.Faulted = false
is_armed State.Estopped = false

-- 01: "state age is now minus the stamp"; 0 where the stamp is later
unfoldable pub is_stale : ℕ → Book → Bool
is_stale now b = leb b.config.state_ttl_ms (now - b.state_at)

-- 01: "readiness (11 Estopped; 12 Faulted; 18 now before last tick; 22 state age at or over `state_ttl_ms`)" (runtime.rs, `ready`)
unfoldable pub ready : ℕ → Book → List Check
ready now b =
    check (not (is_estopped b.state)) Estop
    ∷ check (not (is_faulted b.state)) Faulted
    ∷ check (leb b.last_tick now) Clock
    ∷ check (not (is_stale now b)) StateStale
    ∷ []

-- acquire ------------------------------------------------------------------------------------------------------------

-- bit n of the mask stands for capability id n: the bits of the capabilities of an axis
unfoldable pub allowed : List Capability → ℕ → ℕ
allowed [] axis = 0
allowed (c ∷ cs) axis = cond (eqb c.resource axis) (bit_or (2 ^ c.id) (allowed cs axis)) (allowed cs axis)

-- 0 or over the limit
unfoldable pub bad_duration : ℕ → ℕ → Bool
bad_duration duration limit = eqb duration 0 || ltb limit duration

-- 01: "10 (axis bad or unused, owner, mask or duration 0, duration over `max_lease_ms`, a limit with min above max)"
unfoldable pub valid_request : LeaseRequest → Book → Bool
valid_request r b =
    axis_used b.capabilities r.resource
    && (not (eqb r.owner 0)
    && (not (eqb r.capabilities 0)
    && (not (bad_duration r.duration_ms b.config.max_lease_ms) && all ordered r.limits)))

unfoldable pub is_free : Option Lease → Bool
is_free None = true
is_free (Some l) = false

-- 01: "`acquire`, after tick: readiness; 10; 3 (a mask bit that no capability of the axis has); 19 taken; 10 expiry past u64"
unfoldable pub acquire_checks : LeaseRequest → ℕ → Book → List Check
acquire_checks r now b =
    ready now b
    ++ (check (valid_request r b) Invalid
    ∷ check (inside r.capabilities (allowed b.capabilities r.resource)) Authority
    ∷ check (is_free (lease_at b r.resource)) Busy
    ∷ check (leb (now + r.duration_ms) top) Invalid
    ∷ [])

-- renew --------------------------------------------------------------------------------------------------------------

unfoldable pub is_held_by : ℕ → ℕ → Lease → Bool
is_held_by owner id l = eqb l.id id && eqb l.owner owner

-- the first axis, of these, on which this owner has the lease with this id
unfoldable pub axis_held : ℕ → ℕ → Book → List ℕ → Option ℕ
axis_held owner id b [] = None
axis_held owner id b (axis ∷ axes) = cond (holds_of (lease_at b axis) (is_held_by owner id)) (Some axis) (axis_held owner id b axes)

abbrev pub axes : List ℕ
axes = 0 ∷ 1 ∷ 2 ∷ 3 ∷ 4 ∷ 5 ∷ 6 ∷ 7 ∷ []

-- the lease with this id and owner, and the axis on which it stands
unfoldable pub held_axis : ℕ → ℕ → Book → Option ℕ
held_axis owner id b = axis_held owner id b axes

unfoldable pub lease_on : Option ℕ → Book → Option Lease
lease_on None b = None
lease_on (Some axis) b = lease_at b axis

unfoldable pub held_lease : ℕ → ℕ → Book → Option Lease
held_lease owner id b = lease_on (held_axis owner id b) b

unfoldable pub is_some : {A : Type 0} → Option A → Bool
is_some None = false
is_some (Some a) = true

-- 01: "`renew`: tick, readiness, 10 duration, 3 no lease with this id and owner, 6 renewal not above the last one, 10 overflow"
unfoldable pub renew_checks : Renewal → Book → List Check
renew_checks r b =
    ready r.now b
    ++ (check (not (bad_duration r.duration_ms b.config.max_lease_ms)) Invalid
    ∷ check (is_some (held_lease r.owner r.lease_id b)) Authority
    ∷ check (holds_of (held_lease r.owner r.lease_id b) (λ l. ltb l.last_renewal r.renewal)) OldSequence
    ∷ check (leb (r.now + r.duration_ms) top) Invalid
    ∷ [])

-- submit -------------------------------------------------------------------------------------------------------------

unfoldable pub with_id : ℕ → List Capability → Option Capability
with_id id [] = None
with_id id (c ∷ cs) = cond (eqb c.id id) (Some c) (with_id id cs)

-- the capability that an order names, and the lease that stands on its axis
unfoldable pub order_capability : Submission → Book → Option Capability
order_capability s b = with_id s.action.capability b.capabilities

unfoldable pub lease_for : Option Capability → Book → Option Lease
lease_for None b = None
lease_for (Some c) b = lease_at b c.resource

unfoldable pub order_lease : Submission → Book → Option Lease
order_lease s b = lease_for (order_capability s b) b

unfoldable pub has_bit : ℕ → ℕ → Bool
has_bit word n = not (share_no_bit word (2 ^ n))

-- the lease is the one that the order names, the principal's, and has the capability's bit
unfoldable pub authorizes : Submission → Lease → Bool
authorizes s l =
    eqb l.id s.action.lease_id && (eqb l.owner s.principal && has_bit l.capabilities s.action.capability)

-- 01: "10 (action id or sequence 0, received after now, validity 0 or over limit, execute_after ≥ deadline)"
unfoldable pub well_formed : Submission → Book → Bool
well_formed s b =
    not (eqb s.action.action_id 0)
    && (not (eqb s.action.sequence 0)
    && (leb s.received_at s.now
    && (not (bad_duration s.action.valid_for_ms b.config.max_valid_for_ms) && ltb s.action.execute_after s.action.deadline)))

unfoldable pub is_entry : ℕ → ℕ → Replay → Bool
is_entry owner action e = eqb e.owner owner && eqb e.action_id action

-- the entry of the replay ring with this owner and action id, the newest first
unfoldable pub find_entry : ℕ → ℕ → List Replay → Option Replay
find_entry owner action [] = None
find_entry owner action (e ∷ es) = cond (is_entry owner action e) (Some e) (find_entry owner action es)

unfoldable pub replayed : Submission → Book → Option Replay
replayed s b = find_entry s.principal s.action.action_id b.replay

-- the end of an order's validity
unfoldable pub valid_until : Submission → ℕ
valid_until s = s.received_at + s.action.valid_for_ms

unfoldable pub all_contain : List Bounds → List ℤ → Bool
all_contain [] ps = true
all_contain (b ∷ bs) [] = true
all_contain (b ∷ bs) (p ∷ ps) = contains b p && all_contain bs ps

-- 01, "An order": the 17 admission checks (runtime.rs, `validate`)
unfoldable pub admission : Submission → Book → List Check
admission s b =
    ready s.now b
    ++ (check (eqb s.action.boot_id b.boot_id) BootMismatch
    ∷ check (not (eqb s.principal 0) && eqb s.principal s.action.requester) Authority
    ∷ check (is_some (order_capability s b)) UnknownCapability
    ∷ check (holds_of (order_lease s b) (authorizes s)) Authority
    ∷ check (well_formed s b) Invalid
    ∷ check (not (is_some (replayed s b))) Duplicate
    ∷ check (holds_of (order_lease s b) (λ l. ltb l.last_sequence s.action.sequence)) OldSequence
    ∷ check (leb (valid_until s) top) Invalid
    ∷ check (ltb s.now s.action.deadline && ltb s.now (valid_until s)) Stale
    ∷ check (leb s.action.execute_after s.now) TooEarly
    ∷ check (eqb s.action.based_on_epoch b.epoch) Epoch
    ∷ check
    (holds_of (order_capability s b) (λ c. all_contain c.bounds s.action.parameters)
    && holds_of (order_lease s b) (λ l. all_contain l.limits s.action.parameters))
    Bound
    ∷ check (holds_of (order_capability s b) (λ c. permits c b.flags)) Precondition
    ∷ [])

-- what `validate` finds: the capability and the lease under which the order is admitted, or the reason why not
pub data Verdict : Type 0 where
  Admits : Capability → Lease → Verdict
  Rejects : Reason → Verdict

-- where all checks hold there is a capability and a lease; the last two cases don't arise
unfoldable pub verdict : Option Reason → Option Capability → Option Lease → Verdict
verdict (Some reason) c l = Rejects reason
verdict None (Some c) (Some l) = Admits c l
verdict None (Some c) None = Rejects Authority
verdict None None l = Rejects UnknownCapability

unfoldable pub validate : Submission → Book → Verdict
validate s b = verdict (first_failing (admission s b)) (order_capability s b) (order_lease s b)

-- The 26 words of an output record (docs/WIRE.md, "Output records").
use Rattle.std.specs.Prelude.{ℕ, ◌-◌, Bool, true, false, List, [], ◌∷◌, ◌++◌, ℤ, pos, get_or, length, replicate}
use Rattle.std.specs.Prelude.{Some, None}
use Rattle.model.specs.Decisions.{decision_number}
use Rattle.model.specs.Reasons.{number}
use Rattle.model.specs.Records.{zero_bounds}
use Rattle.model.specs.declared.Bounds.{Bounds}
use Rattle.model.specs.declared.Capability.{Capability}
use Rattle.model.specs.declared.Config.{Config}
use Rattle.model.specs.declared.ExecutionClass.{ExecutionClass}
use Rattle.model.specs.declared.ExecutionClass.TheVariants as Class
use Rattle.model.specs.declared.Lease.{Lease}
use Rattle.model.specs.declared.Receipt.{Receipt}
use Rattle.model.specs.declared.RuntimeState.{RuntimeState}
use Rattle.model.specs.declared.RuntimeState.TheVariants as State
use Rattle.model.specs.declared.Snapshot.{Snapshot}
use Rattle.model.specs.declared.Verification.{Verification}
use Rattle.rules.specs.Interaction.{Answer, Returned, Polled, Succeeded, Leased, Refused, Submitted}
use Rattle.rules.specs.Protocol.{Item, ItemObserve, ItemExecute, ItemFallback, ItemRecord, Value, OfState, OfNumber, OfConfig, OfSnapshot, OfLease, OfCapability, OfReceipt, Output, Started, StartRefused, Hands, Answers, Reminds, Refuses, Shows, NoRuntime}
use Rattle.words.specs.Signs.{unsigned}

-- fields -----------------------------------------------------------------------------------------------------------------

unfoldable pub bit : Bool → ℕ
bit false = 0
bit true = 1

-- one of two parameters, and the ends of one of two bounds
abbrev pub part_at : List ℤ → ℕ → ℕ
part_at zs i = unsigned (get_or zs i (pos 0))

abbrev pub bounds_in : List Bounds → ℕ → Bounds
bounds_in bs i = get_or bs i zero_bounds

abbrev pub min_at : List Bounds → ℕ → ℕ
min_at bs i = unsigned (bounds_in bs i).min

abbrev pub max_at : List Bounds → ℕ → ℕ
max_at bs i = unsigned (bounds_in bs i).max

unfoldable pub class_number : ExecutionClass → ℕ
class_number Class.Stream = 0
class_number Class.Discrete = 1
class_number Class.Control = 2

unfoldable pub state_number : RuntimeState → ℕ
state_number State.SafeIdle = 0
state_number State.Armed = 1
state_number State.Faulted = 2
state_number State.Estopped = 3

-- which it is, its mask and its value
unfoldable pub verification_word : Verification → ℕ
verification_word Verification.Parameters = 0
verification_word (Verification.State mask value) = 1

unfoldable pub mask_word : Verification → ℕ
mask_word Verification.Parameters = 0
mask_word (Verification.State mask value) = mask

unfoldable pub value_word : Verification → ℕ
value_word Verification.Parameters = 0
value_word (Verification.State mask value) = value

-- records ----------------------------------------------------------------------------------------------------------------

unfoldable pub receipt_words : Receipt → List ℕ
receipt_words r =
    r.boot_id
    ∷ r.principal
    ∷ r.safety_flags
    ∷ r.receipt_id
    ∷ r.action_id
    ∷ r.sequence
    ∷ r.capability
    ∷ r.resource
    ∷ r.lease_id
    ∷ decision_number r.decision
    ∷ number r.reason
    ∷ r.epoch
    ∷ r.received_at
    ∷ r.admitted_at
    ∷ r.executed_at
    ∷ part_at r.requested 0
    ∷ part_at r.requested 1
    ∷ part_at r.observed 0
    ∷ part_at r.observed 1
    ∷ r.pre_state
    ∷ r.post_state
    ∷ r.original_receipt
    ∷ bit r.dispatched
    ∷ bit r.observed_valid
    ∷ []

unfoldable pub lease_words : Lease → List ℕ
lease_words l =
    l.id
    ∷ l.owner
    ∷ l.resource
    ∷ l.capabilities
    ∷ l.expires_at
    ∷ min_at l.limits 0
    ∷ max_at l.limits 0
    ∷ min_at l.limits 1
    ∷ max_at l.limits 1
    ∷ l.last_sequence
    ∷ l.last_renewal
    ∷ []

unfoldable pub capability_words : Capability → List ℕ
capability_words c =
    c.id
    ∷ c.resource
    ∷ class_number c.class
    ∷ c.parameter_count
    ∷ min_at c.bounds 0
    ∷ max_at c.bounds 0
    ∷ min_at c.bounds 1
    ∷ max_at c.bounds 1
    ∷ c.require_set
    ∷ c.require_clear
    ∷ verification_word c.verification
    ∷ mask_word c.verification
    ∷ value_word c.verification
    ∷ []

unfoldable pub config_words : Config → List ℕ
config_words c =
    c.watchdog_ms ∷ c.state_ttl_ms ∷ c.max_lease_ms ∷ c.max_valid_for_ms ∷ c.invalid_limit ∷ c.estop_mask ∷ []

unfoldable pub snapshot_words : Snapshot → List ℕ
snapshot_words s =
    s.boot_id
    ∷ s.epoch
    ∷ s.now
    ∷ s.sensor_tick
    ∷ s.flags
    ∷ state_number s.state
    ∷ s.active_leases
    ∷ s.retained_receipts
    ∷ s.next_receipt_id
    ∷ []

-- outputs ----------------------------------------------------------------------------------------------------------------

-- a kind, a number, the fields, and zeros up to 26 words
unfoldable pub padded : ℕ → ℕ → List ℕ → List ℕ
padded kind number fields = kind ∷ number ∷ (fields ++ replicate (24 - length fields) 0)

-- an item: 0, or the number that it comes again with
unfoldable pub item_words : ℕ → Item → List ℕ
item_words n (ItemObserve axis) = padded 16 n (axis ∷ [])
item_words n (ItemExecute capability parameters) = padded 17 n (capability ∷ part_at parameters 0 ∷ part_at parameters 1 ∷ [])
item_words n (ItemFallback axis reason) = padded 18 n (axis ∷ number reason ∷ [])
item_words n (ItemRecord r) = padded 19 n (receipt_words r)

unfoldable pub answer_words : Answer → List ℕ
answer_words Returned = padded 32 0 []
answer_words (Polled seen) = padded 33 (bit seen) []
answer_words Succeeded = padded 34 0 []
answer_words (Leased l) = padded 35 0 (lease_words l)
answer_words (Refused reason) = padded 36 (number reason) []
answer_words (Submitted r) = padded 37 0 (receipt_words r)

unfoldable pub value_words : Value → List ℕ
value_words (OfState s) = padded 48 (state_number s) []
value_words (OfNumber n) = padded 49 n []
value_words (OfConfig c) = padded 53 0 (config_words c)
value_words (OfSnapshot s) = padded 54 0 (snapshot_words s)
value_words (OfLease None) = padded 55 0 []
value_words (OfLease (Some l)) = padded 55 1 (lease_words l)
value_words (OfCapability None) = padded 56 0 []
value_words (OfCapability (Some c)) = padded 56 1 (capability_words c)
value_words (OfReceipt None) = padded 57 0 []
value_words (OfReceipt (Some r)) = padded 57 1 (receipt_words r)

unfoldable pub encode : Output → List ℕ
encode Started = padded 2 0 []
encode (StartRefused n) = padded 3 n []
encode NoRuntime = padded 4 0 []
encode (Refuses n) = padded 5 n []
encode (Hands item) = item_words 0 item
encode (Reminds n item) = item_words n item
encode (Answers a) = answer_words a
encode (Shows v) = value_words v

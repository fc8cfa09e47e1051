-- The 16 words of an input record, and what its fields can hold by their types (docs/WIRE.md, "Input records").
use Rattle.std.specs.Prelude.{ℕ, ◌-◌, ◌≤◌, List, [], ◌∷◌, ◌++◌, ℤ, length, replicate}
use Rattle.std.specs.Prelude.{Some, None}
use Rattle.std.specs.Int.{w32}
use Rattle.std.proofs.Common.{SFits}
use Rattle.model.specs.declared.Action.{Action}
use Rattle.model.specs.declared.Bounds.{Bounds}
use Rattle.model.specs.declared.Capability.{Capability}
use Rattle.model.specs.declared.Config.{Config}
use Rattle.model.specs.declared.LeaseRequest.{LeaseRequest}
use Rattle.model.specs.declared.Observation.{Observation}
use Rattle.model.specs.declared.Renewal.{Renewal}
use Rattle.model.specs.declared.Submission.{Submission}
use Rattle.model.specs.declared.Verification.{Verification}
use Rattle.model.specs.declared.Verification.TheVariants.{Parameters, State}
use Rattle.rules.specs.Protocol.{Call, Reply, Reading, Calls, Replies, Reads, Tick, UpdateState, EmergencyStop, PollEstop, RecoverLocal, Acquire, Renew, Cancel, Submit, Observed, Executed, FellBack, Recorded, ReadState, ReadEpoch, ReadBootId, ReadFlags, ReadReceiptCount, ReadConfig, ReadSnapshot, ReadLease, ReadCapability, ReadReceipt}
use Rattle.format.specs.Kinds.{u64, u32, u16, u8}
use Rattle.format.specs.Decode.{Record, Lists, Starts, Feeds, Malformed}
use Rattle.format.specs.Encode.{bit, part_at, min_at, max_at, capability_words, config_words}

-- words ------------------------------------------------------------------------------------------------------------------

-- a kind, the fields, and zeros up to 16 words
unfoldable pub padded_to16 : ℕ → List ℕ → List ℕ
padded_to16 kind fields = kind ∷ (fields ++ replicate (15 - length fields) 0)

unfoldable pub request_words : LeaseRequest → List ℕ
request_words r =
    r.owner
    ∷ r.resource
    ∷ r.capabilities
    ∷ r.duration_ms
    ∷ min_at r.limits 0
    ∷ max_at r.limits 0
    ∷ min_at r.limits 1
    ∷ max_at r.limits 1
    ∷ []

unfoldable pub renewal_words : Renewal → List ℕ
renewal_words r = r.now ∷ r.owner ∷ r.lease_id ∷ r.renewal ∷ r.duration_ms ∷ []

unfoldable pub action_words : Action → List ℕ
action_words a =
    a.boot_id
    ∷ a.requester
    ∷ a.lease_id
    ∷ a.action_id
    ∷ a.sequence
    ∷ a.capability
    ∷ a.based_on_epoch
    ∷ a.execute_after
    ∷ a.deadline
    ∷ a.valid_for_ms
    ∷ part_at a.parameters 0
    ∷ part_at a.parameters 1
    ∷ []

unfoldable pub call_words : Call → List ℕ
call_words (Tick now) = padded_to16 16 (now ∷ [])
call_words (UpdateState flags now) = padded_to16 17 (now ∷ flags ∷ [])
call_words (EmergencyStop now) = padded_to16 18 (now ∷ [])
call_words (PollEstop raised now) = padded_to16 19 (now ∷ raised ∷ [])
call_words (RecoverLocal now) = padded_to16 20 (now ∷ [])
call_words (Acquire r now) = padded_to16 21 (now ∷ request_words r)
call_words (Renew r) = padded_to16 22 (renewal_words r)
call_words (Cancel owner lease now) = padded_to16 23 (now ∷ owner ∷ lease ∷ [])
call_words (Submit s) = padded_to16 24 (s.now ∷ s.principal ∷ s.received_at ∷ action_words s.action)

unfoldable pub reply_words : Reply → List ℕ
reply_words (Observed None) = padded_to16 32 (0 ∷ [])
reply_words (Observed (Some o)) = padded_to16 32 (1 ∷ part_at o.parameters 0 ∷ part_at o.parameters 1 ∷ o.state ∷ [])
reply_words (Executed ok) = padded_to16 33 (bit ok ∷ [])
reply_words (FellBack ok) = padded_to16 34 (bit ok ∷ [])
reply_words Recorded = padded_to16 35 []

unfoldable pub reading_words : Reading → List ℕ
reading_words ReadState = padded_to16 48 []
reading_words ReadEpoch = padded_to16 49 []
reading_words ReadBootId = padded_to16 50 []
reading_words ReadFlags = padded_to16 51 []
reading_words ReadReceiptCount = padded_to16 52 []
reading_words ReadConfig = padded_to16 53 []
reading_words ReadSnapshot = padded_to16 54 []
reading_words (ReadLease axis) = padded_to16 55 (axis ∷ [])
reading_words (ReadCapability index) = padded_to16 56 (index ∷ [])
reading_words (ReadReceipt index) = padded_to16 57 (index ∷ [])

-- a malformed one: 0 is no kind
unfoldable pub input_words : Record → List ℕ
input_words (Lists c) = padded_to16 1 (capability_words c)
input_words (Starts config boot_id now flags) = padded_to16 2 (boot_id ∷ now ∷ flags ∷ config_words config)
input_words (Feeds (Calls c)) = call_words c
input_words (Feeds (Replies r)) = reply_words r
input_words (Feeds (Reads q)) = reading_words q
input_words Malformed = padded_to16 0 []

-- ranges -----------------------------------------------------------------------------------------------------------------

abbrev pub I32 : ℤ → Type 0
I32 z = SFits w32 z

-- a list of two, each of which is P
pub data Two {A : Type 0} (P : A → Type 0) : List A → Type 0 where
  two : {a b : A} → P a → P b → Two P (a ∷ b ∷ [])

abbrev pub RangedBounds : Bounds → Type 0
RangedBounds b = I32 b.min × I32 b.max

abbrev pub RangedVerification : Verification → Type 0
RangedVerification Parameters = Unit
RangedVerification (State mask value) = (mask ≤ u32) × (value ≤ u32)

pub record RangedCapability (c : Capability) : Type 0 where
  pub id : c.id ≤ u16
  pub resource : c.resource ≤ u8
  pub parameter_count : c.parameter_count ≤ u8
  pub bounds : Two RangedBounds c.bounds
  pub require_set : c.require_set ≤ u32
  pub require_clear : c.require_clear ≤ u32
  pub verification : RangedVerification c.verification

pub record RangedConfig (c : Config) : Type 0 where
  pub watchdog_ms : c.watchdog_ms ≤ u32
  pub state_ttl_ms : c.state_ttl_ms ≤ u32
  pub max_lease_ms : c.max_lease_ms ≤ u32
  pub max_valid_for_ms : c.max_valid_for_ms ≤ u32
  pub invalid_limit : c.invalid_limit ≤ u16
  pub estop_mask : c.estop_mask ≤ u32

pub record RangedRequest (r : LeaseRequest) : Type 0 where
  pub owner : r.owner ≤ u64
  pub resource : r.resource ≤ u8
  pub capabilities : r.capabilities ≤ u64
  pub duration_ms : r.duration_ms ≤ u32
  pub limits : Two RangedBounds r.limits

pub record RangedRenewal (r : Renewal) : Type 0 where
  pub now : r.now ≤ u64
  pub owner : r.owner ≤ u64
  pub lease_id : r.lease_id ≤ u64
  pub renewal : r.renewal ≤ u64
  pub duration_ms : r.duration_ms ≤ u32

pub record RangedAction (a : Action) : Type 0 where
  pub boot_id : a.boot_id ≤ u64
  pub requester : a.requester ≤ u64
  pub lease_id : a.lease_id ≤ u64
  pub action_id : a.action_id ≤ u64
  pub sequence : a.sequence ≤ u64
  pub capability : a.capability ≤ u16
  pub based_on_epoch : a.based_on_epoch ≤ u64
  pub execute_after : a.execute_after ≤ u64
  pub deadline : a.deadline ≤ u64
  pub valid_for_ms : a.valid_for_ms ≤ u32
  pub parameters : Two I32 a.parameters

pub record RangedSubmission (s : Submission) : Type 0 where
  pub now : s.now ≤ u64
  pub principal : s.principal ≤ u64
  pub received_at : s.received_at ≤ u64
  pub action : RangedAction s.action

pub record RangedObservation (o : Observation) : Type 0 where
  pub parameters : Two I32 o.parameters
  pub state : o.state ≤ u32

abbrev pub RangedCall : Call → Type 0
RangedCall (Tick now) = now ≤ u64
RangedCall (UpdateState flags now) = (flags ≤ u32) × (now ≤ u64)
RangedCall (EmergencyStop now) = now ≤ u64
RangedCall (PollEstop raised now) = (raised ≤ u32) × (now ≤ u64)
RangedCall (RecoverLocal now) = now ≤ u64
RangedCall (Acquire r now) = RangedRequest r × (now ≤ u64)
RangedCall (Renew r) = RangedRenewal r
RangedCall (Cancel owner lease now) = (owner ≤ u64) × (lease ≤ u64) × (now ≤ u64)
RangedCall (Submit s) = RangedSubmission s

abbrev pub RangedReply : Reply → Type 0
RangedReply (Observed None) = Unit
RangedReply (Observed (Some o)) = RangedObservation o
RangedReply (Executed ok) = Unit
RangedReply (FellBack ok) = Unit
RangedReply Recorded = Unit

abbrev pub RangedReading : Reading → Type 0
RangedReading ReadState = Unit
RangedReading ReadEpoch = Unit
RangedReading ReadBootId = Unit
RangedReading ReadFlags = Unit
RangedReading ReadReceiptCount = Unit
RangedReading ReadConfig = Unit
RangedReading ReadSnapshot = Unit
RangedReading (ReadLease axis) = axis ≤ u8
RangedReading (ReadCapability index) = index ≤ u64
RangedReading (ReadReceipt index) = index ≤ u64

abbrev pub Ranged : Record → Type 0
Ranged (Lists c) = RangedCapability c
Ranged (Starts config boot_id now flags) = RangedConfig config × (boot_id ≤ u64) × (now ≤ u64) × (flags ≤ u32)
Ranged (Feeds (Calls c)) = RangedCall c
Ranged (Feeds (Replies r)) = RangedReply r
Ranged (Feeds (Reads q)) = RangedReading q
Ranged Malformed = Unit

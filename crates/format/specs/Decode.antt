-- What the 16 words of an input record stand for (docs/WIRE.md, "Input records"). A narrow field takes the low bits of its word; `within` has
-- made sure that there are no others.
use Rattle.std.specs.Prelude.{ℕ, ◌%◌, Bool, cond, List, [], ◌∷◌, eqb, ℤ, get_or, Option, Some, None, option_and_then}
use Rattle.model.specs.declared.Action.{Action}
use Rattle.model.specs.declared.Bounds.{Bounds}
use Rattle.model.specs.declared.Capability.{Capability}
use Rattle.model.specs.declared.Config.{Config}
use Rattle.model.specs.declared.ExecutionClass.{ExecutionClass}
use Rattle.model.specs.declared.ExecutionClass.TheVariants.{Stream, Discrete, Control}
use Rattle.model.specs.declared.LeaseRequest.{LeaseRequest}
use Rattle.model.specs.declared.Observation.{Observation}
use Rattle.model.specs.declared.Renewal.{Renewal}
use Rattle.model.specs.declared.Submission.{Submission}
use Rattle.model.specs.declared.Verification.{Verification}
use Rattle.model.specs.declared.Verification.TheVariants.{Parameters, State}
use Rattle.rules.specs.Protocol.{Input, Reading, Calls, Replies, Reads, Tick, UpdateState, EmergencyStop, PollEstop, RecoverLocal, Acquire, Renew, Cancel, Submit, Observed, Executed, FellBack, Recorded, ReadState, ReadEpoch, ReadBootId, ReadFlags, ReadReceiptCount, ReadConfig, ReadSnapshot, ReadLease, ReadCapability, ReadReceipt}
use Rattle.format.specs.declared.RecordKind.{RecordKind}
use Rattle.format.specs.declared.RecordKind.TheVariants as Kind
use Rattle.format.specs.declared.TurnKind.{TurnKind}
use Rattle.format.specs.declared.TurnKind.TheVariants as Turn
use Rattle.format.specs.declared.ReadingKind.{ReadingKind}
use Rattle.format.specs.declared.ReadingKind.TheVariants as Ask
use Rattle.format.specs.Kinds.{kind_at, limits_of, within}
use Rattle.words.specs.Signs.{signed}

-- fields -----------------------------------------------------------------------------------------------------------------

abbrev pub word : List ℕ → ℕ → ℕ
word ws i = get_or ws i 0

abbrev pub u32_at : List ℕ → ℕ → ℕ
u32_at ws i = word ws i % 4294967296

abbrev pub u16_at : List ℕ → ℕ → ℕ
u16_at ws i = word ws i % 65536

abbrev pub u8_at : List ℕ → ℕ → ℕ
u8_at ws i = word ws i % 256

abbrev pub bool_at : List ℕ → ℕ → Bool
bool_at ws i = eqb (word ws i) 1

abbrev pub i32_at : List ℕ → ℕ → ℤ
i32_at ws i = signed (u32_at ws i)

unfoldable pub bounds_of : ℕ → ℕ → Bounds
bounds_of min max = record { min = signed (min % 4294967296); max = signed (max % 4294967296) }

abbrev pub bounds_at : List ℕ → ℕ → ℕ → Bounds
bounds_at ws i j = bounds_of (word ws i) (word ws j)

-- records ----------------------------------------------------------------------------------------------------------------

unfoldable pub class_of : ℕ → ExecutionClass
class_of n = cond (eqb n 0) Stream (cond (eqb n 1) Discrete Control)

unfoldable pub verification_of : Bool → ℕ → ℕ → Verification
verification_of state mask value = cond state (State mask value) Parameters

unfoldable pub capability_of : List ℕ → Capability
capability_of ws =
    record {
      id = u16_at ws 1;
      resource = u8_at ws 2;
      class = class_of (word ws 3);
      parameter_count = u8_at ws 4;
      bounds = bounds_at ws 5 6 ∷ bounds_at ws 7 8 ∷ [];
      require_set = u32_at ws 9;
      require_clear = u32_at ws 10;
      verification = verification_of (bool_at ws 11) (u32_at ws 12) (u32_at ws 13);
    }

unfoldable pub config_of : List ℕ → Config
config_of ws =
    record {
      watchdog_ms = u32_at ws 4;
      state_ttl_ms = u32_at ws 5;
      max_lease_ms = u32_at ws 6;
      max_valid_for_ms = u32_at ws 7;
      invalid_limit = u16_at ws 8;
      estop_mask = u32_at ws 9;
    }

unfoldable pub request_of : List ℕ → LeaseRequest
request_of ws =
    record {
      owner = word ws 2;
      resource = u8_at ws 3;
      capabilities = word ws 4;
      duration_ms = u32_at ws 5;
      limits = bounds_at ws 6 7 ∷ bounds_at ws 8 9 ∷ [];
    }

unfoldable pub renewal_of : List ℕ → Renewal
renewal_of ws =
    record {
      now = word ws 1;
      owner = word ws 2;
      lease_id = word ws 3;
      renewal = word ws 4;
      duration_ms = u32_at ws 5;
    }

unfoldable pub action_of : List ℕ → Action
action_of ws =
    record {
      boot_id = word ws 4;
      requester = word ws 5;
      lease_id = word ws 6;
      action_id = word ws 7;
      sequence = word ws 8;
      capability = u16_at ws 9;
      based_on_epoch = word ws 10;
      execute_after = word ws 11;
      deadline = word ws 12;
      valid_for_ms = u32_at ws 13;
      parameters = i32_at ws 14 ∷ i32_at ws 15 ∷ [];
    }

unfoldable pub submission_of : List ℕ → Submission
submission_of ws =
    record {
      now = word ws 1;
      principal = word ws 2;
      received_at = word ws 3;
      action = action_of ws;
    }

unfoldable pub observation_of : List ℕ → Observation
observation_of ws = record { parameters = i32_at ws 2 ∷ i32_at ws 3 ∷ []; state = u32_at ws 4 }

-- none: the driver failed
unfoldable pub observed_of : List ℕ → Option Observation
observed_of ws = cond (bool_at ws 1) (Some (observation_of ws)) None

pub data Record : Type 0 where
  Lists : Capability → Record  -- one more capability for the next start
  Starts : Config → ℕ → ℕ → ℕ → Record  -- configuration, boot number, time, flags
  Feeds : Input → Record
  Malformed : Record

unfoldable pub turn_of : TurnKind → List ℕ → Input
turn_of Turn.Tick ws = Calls (Tick (word ws 1))
turn_of Turn.UpdateState ws = Calls (UpdateState (u32_at ws 2) (word ws 1))
turn_of Turn.EmergencyStop ws = Calls (EmergencyStop (word ws 1))
turn_of Turn.PollEstop ws = Calls (PollEstop (u32_at ws 2) (word ws 1))
turn_of Turn.RecoverLocal ws = Calls (RecoverLocal (word ws 1))
turn_of Turn.Acquire ws = Calls (Acquire (request_of ws) (word ws 1))
turn_of Turn.Renew ws = Calls (Renew (renewal_of ws))
turn_of Turn.Cancel ws = Calls (Cancel (word ws 2) (word ws 3) (word ws 1))
turn_of Turn.Submit ws = Calls (Submit (submission_of ws))
turn_of Turn.Observed ws = Replies (Observed (observed_of ws))
turn_of Turn.Executed ws = Replies (Executed (bool_at ws 1))
turn_of Turn.FellBack ws = Replies (FellBack (bool_at ws 1))
turn_of Turn.Recorded ws = Replies Recorded

unfoldable pub reading_of : ReadingKind → List ℕ → Reading
reading_of Ask.State ws = ReadState
reading_of Ask.Epoch ws = ReadEpoch
reading_of Ask.BootId ws = ReadBootId
reading_of Ask.Flags ws = ReadFlags
reading_of Ask.ReceiptCount ws = ReadReceiptCount
reading_of Ask.Config ws = ReadConfig
reading_of Ask.Snapshot ws = ReadSnapshot
reading_of Ask.Lease ws = ReadLease (u8_at ws 1)
reading_of Ask.CapabilityAt ws = ReadCapability (word ws 1)
reading_of Ask.ReceiptAt ws = ReadReceipt (word ws 1)

unfoldable pub record_of : Option RecordKind → List ℕ → Record
record_of (Some Kind.Capability) ws = Lists (capability_of ws)
record_of (Some Kind.Start) ws = Starts (config_of ws) (word ws 1) (word ws 2) (u32_at ws 3)
record_of (Some (Kind.Turn t)) ws = Feeds (turn_of t ws)
record_of (Some (Kind.Reading q)) ws = Feeds (Reads (reading_of q ws))
record_of None ws = Malformed

-- the kind, unless a word is above what its field can hold
unfoldable pub checked : List ℕ → RecordKind → Option RecordKind
checked ws k = cond (within ws (limits_of k)) (Some k) None

unfoldable pub checked_kind : List ℕ → Option RecordKind
checked_kind ws = option_and_then (checked ws) (kind_at (word ws 0))

unfoldable pub decode : List ℕ → Record
decode ws = record_of (checked_kind ws) ws

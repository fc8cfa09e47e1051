-- An output read back from the 26 words of its record, and which outputs these words hold whole (docs/WIRE.md, "Output records").
use Rattle.std.specs.Prelude.{ℕ, zero, suc, ◌<◌, cond, List, [], ◌∷◌, eqb, get_or, drop}
use Rattle.std.specs.Prelude.{Option, Some, None}
use Rattle.model.specs.Decisions.{decisions}
use Rattle.model.specs.Reasons.{reasons}
use Rattle.model.specs.declared.Capability.{Capability}
use Rattle.model.specs.declared.Config.{Config}
use Rattle.model.specs.declared.Decision.{Decision}
use Rattle.model.specs.declared.Decision.TheVariants.{Executed}
use Rattle.model.specs.declared.Lease.{Lease}
use Rattle.model.specs.declared.Reason.{Reason}
use Rattle.model.specs.declared.Reason.TheVariants.{Ok}
use Rattle.model.specs.declared.Receipt.{Receipt}
use Rattle.model.specs.declared.RuntimeState.{RuntimeState}
use Rattle.model.specs.declared.RuntimeState.TheVariants as State
use Rattle.model.specs.declared.Snapshot.{Snapshot}
use Rattle.rules.specs.Interaction.{Answer, Returned, Polled, Succeeded, Leased, Refused, Submitted}
use Rattle.rules.specs.Protocol.{Item, ItemObserve, ItemExecute, ItemFallback, ItemRecord, Value, OfState, OfNumber, OfConfig, OfSnapshot, OfLease, OfCapability, OfReceipt, Output, Started, StartRefused, Hands, Answers, Reminds, Refuses, Shows, NoRuntime}
use Rattle.format.specs.Decode.{word, bool_at, i32_at, bounds_at, capability_of}
use Rattle.format.specs.Inputs.{I32, Two, RangedBounds, RangedCapability}

-- cases: each is at the place that is its number -------------------------------------------------------------------------

abbrev pub decision_of : ℕ → Decision
decision_of n = get_or decisions n Executed

abbrev pub reason_of : ℕ → Reason
reason_of n = get_or reasons n Ok

abbrev pub state_of : ℕ → RuntimeState
state_of n = get_or (State.SafeIdle ∷ State.Armed ∷ State.Faulted ∷ State.Estopped ∷ []) n State.SafeIdle

-- records: from word 2 on ------------------------------------------------------------------------------------------------

unfoldable pub receipt_in : List ℕ → Receipt
receipt_in ws =
    record {
      boot_id = word ws 2;
      principal = word ws 3;
      safety_flags = word ws 4;
      receipt_id = word ws 5;
      action_id = word ws 6;
      sequence = word ws 7;
      capability = word ws 8;
      resource = word ws 9;
      lease_id = word ws 10;
      decision = decision_of (word ws 11);
      reason = reason_of (word ws 12);
      epoch = word ws 13;
      received_at = word ws 14;
      admitted_at = word ws 15;
      executed_at = word ws 16;
      requested = i32_at ws 17 ∷ i32_at ws 18 ∷ [];
      observed = i32_at ws 19 ∷ i32_at ws 20 ∷ [];
      pre_state = word ws 21;
      post_state = word ws 22;
      original_receipt = word ws 23;
      dispatched = bool_at ws 24;
      observed_valid = bool_at ws 25;
    }

unfoldable pub lease_in : List ℕ → Lease
lease_in ws =
    record {
      id = word ws 2;
      owner = word ws 3;
      resource = word ws 4;
      capabilities = word ws 5;
      expires_at = word ws 6;
      limits = bounds_at ws 7 8 ∷ bounds_at ws 9 10 ∷ [];
      last_sequence = word ws 11;
      last_renewal = word ws 12;
    }

-- words 1 to 13 of a capability record
unfoldable pub capability_in : List ℕ → Capability
capability_in ws = capability_of (drop 1 ws)

unfoldable pub config_in : List ℕ → Config
config_in ws =
    record {
      watchdog_ms = word ws 2;
      state_ttl_ms = word ws 3;
      max_lease_ms = word ws 4;
      max_valid_for_ms = word ws 5;
      invalid_limit = word ws 6;
      estop_mask = word ws 7;
    }

unfoldable pub snapshot_in : List ℕ → Snapshot
snapshot_in ws =
    record {
      boot_id = word ws 2;
      epoch = word ws 3;
      now = word ws 4;
      sensor_tick = word ws 5;
      flags = word ws 6;
      state = state_of (word ws 7);
      active_leases = word ws 8;
      retained_receipts = word ws 9;
      next_receipt_id = word ws 10;
    }

-- outputs ----------------------------------------------------------------------------------------------------------------

-- an item, by the number in word 1
unfoldable pub handed : ℕ → Item → Output
handed zero item = Hands item
handed (suc n) item = Reminds (suc n) item

-- word 1 says whether there is one
abbrev pub shown : {A : Type 0} → List ℕ → A → Option A
shown ws a = cond (bool_at ws 1) (Some a) None

-- the table of docs/WIRE.md
unfoldable pub outputs : List ℕ → List (ℕ × Output)
outputs ws =
    (2, Started)
    ∷ (3, StartRefused (word ws 1))
    ∷ (4, NoRuntime)
    ∷ (5, Refuses (word ws 1))
    ∷ (16, handed (word ws 1) (ItemObserve (word ws 2)))
    ∷ (17, handed (word ws 1) (ItemExecute (word ws 2) (i32_at ws 3 ∷ i32_at ws 4 ∷ [])))
    ∷ (18, handed (word ws 1) (ItemFallback (word ws 2) (reason_of (word ws 3))))
    ∷ (19, handed (word ws 1) (ItemRecord (receipt_in ws)))
    ∷ (32, Answers Returned)
    ∷ (33, Answers (Polled (bool_at ws 1)))
    ∷ (34, Answers Succeeded)
    ∷ (35, Answers (Leased (lease_in ws)))
    ∷ (36, Answers (Refused (reason_of (word ws 1))))
    ∷ (37, Answers (Submitted (receipt_in ws)))
    ∷ (48, Shows (OfState (state_of (word ws 1))))
    ∷ (49, Shows (OfNumber (word ws 1)))
    ∷ (53, Shows (OfConfig (config_in ws)))
    ∷ (54, Shows (OfSnapshot (snapshot_in ws)))
    ∷ (55, Shows (OfLease (shown ws (lease_in ws))))
    ∷ (56, Shows (OfCapability (shown ws (capability_in ws))))
    ∷ (57, Shows (OfReceipt (shown ws (receipt_in ws))))
    ∷ []

unfoldable pub output_at : List (ℕ × Output) → ℕ → Option Output
output_at [] kind = None
output_at (o ∷ os) kind = cond (eqb kind o.0) (Some o.1) (output_at os kind)

-- none: what is no output (1 listed, 64 malformed, 65 short)
unfoldable pub output_in : List ℕ → Option Output
output_in ws = output_at (outputs ws) (word ws 0)

-- held whole -------------------------------------------------------------------------------------------------------------

-- pairs are two numbers of 32 bits; any other number stands in its word as it is
abbrev pub FitsReceipt : Receipt → Type 0
FitsReceipt r = Two I32 r.requested × Two I32 r.observed

abbrev pub FitsLease : Lease → Type 0
FitsLease l = Two RangedBounds l.limits

abbrev pub FitsItem : Item → Type 0
FitsItem (ItemObserve axis) = Unit
FitsItem (ItemExecute capability parameters) = Two I32 parameters
FitsItem (ItemFallback axis reason) = Unit
FitsItem (ItemRecord r) = FitsReceipt r

abbrev pub FitsAnswer : Answer → Type 0
FitsAnswer Returned = Unit
FitsAnswer (Polled seen) = Unit
FitsAnswer Succeeded = Unit
FitsAnswer (Leased l) = FitsLease l
FitsAnswer (Refused reason) = Unit
FitsAnswer (Submitted r) = FitsReceipt r

abbrev pub FitsValue : Value → Type 0
FitsValue (OfState s) = Unit
FitsValue (OfNumber n) = Unit
FitsValue (OfConfig c) = Unit
FitsValue (OfSnapshot s) = Unit
FitsValue (OfLease None) = Unit
FitsValue (OfLease (Some l)) = FitsLease l
FitsValue (OfCapability None) = Unit
FitsValue (OfCapability (Some c)) = RangedCapability c
FitsValue (OfReceipt None) = Unit
FitsValue (OfReceipt (Some r)) = FitsReceipt r

-- a reminder's number is not 0 (it is 111 or 113)
abbrev pub Fits : Output → Type 0
Fits Started = Unit
Fits (StartRefused n) = Unit
Fits NoRuntime = Unit
Fits (Refuses n) = Unit
Fits (Hands item) = FitsItem item
Fits (Reminds n item) = (0 < n) × FitsItem item
Fits (Answers a) = FitsAnswer a
Fits (Shows v) = FitsValue v

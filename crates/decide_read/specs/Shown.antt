-- What a host is shown, as equations, and what it says in the rules' words: what is absent is blank.
use Rattle.std.specs.Prelude.{ℕ, Bool, true, false, cond, List, [], ◌∷◌, ◌≡◌, ltb, ℤ, pos, Option, Some, None}
use Rattle.model.specs.declared.Capability.{Capability}
use Rattle.model.specs.declared.Config.{Config}
use Rattle.model.specs.declared.Lease.{Lease}
use Rattle.model.specs.declared.LeaseSlot.{LeaseSlot}
use Rattle.model.specs.declared.Presence.{Presence}
use Rattle.model.specs.declared.Presence.TheVariants.{Absent, Present}
use Rattle.model.specs.declared.Reason.{Reason}
use Rattle.model.specs.declared.Reason.TheVariants.{Ok}
use Rattle.model.specs.declared.Receipt.{Receipt}
use Rattle.model.specs.declared.RuntimeState.{RuntimeState}
use Rattle.model.specs.declared.RuntimeState.TheVariants.{Faulted}
use Rattle.model.specs.declared.Snapshot.{Snapshot}
use Rattle.model.specs.Records.{no_lease, no_capability, no_receipt}
use Rattle.receipts.specs.Indexes.{Points}
use Rattle.receipts.specs.declared.Index.{Index}
use Rattle.receipts.specs.declared.Place.{Place}
use Rattle.rules.specs.Protocol.{ItemObserve, ItemExecute, ItemFallback, ItemRecord, Value, Output, Shows, NoRuntime, OfState, OfNumber, OfConfig, OfSnapshot, OfLease, OfCapability, OfReceipt}
use Rattle.rules.specs.Protocol as Protocol
use Rattle.state.specs.State.{lease_in}
use Rattle.state.specs.declared.Awaited.{Awaited}
use Rattle.state.specs.declared.Falling.{Falling}
use Rattle.state.specs.declared.Fixed.{Fixed}
use Rattle.state.specs.declared.Numbers.{Numbers}
use Rattle.decide_read.specs.declared.CapabilityShown.{CapabilityShown}
use Rattle.decide_read.specs.declared.ConfigShown.{ConfigShown}
use Rattle.decide_read.specs.declared.ItemShown.{ItemShown}
use Rattle.decide_read.specs.declared.ItemKind.{ItemKind}
use Rattle.decide_read.specs.declared.LeaseShown.{LeaseShown}
use Rattle.decide_read.specs.declared.Noted.{Noted}
use Rattle.decide_read.specs.declared.NumberShown.{NumberShown}
use Rattle.decide_read.specs.declared.ReceiptShown.{ReceiptShown}
use Rattle.decide_read.specs.declared.SnapshotShown.{SnapshotShown}
use Rattle.decide_read.specs.declared.StateShown.{StateShown}

abbrev pub presence_of : Bool → Presence
presence_of false = Absent
presence_of true = Present

-- readings, by whether there is a runtime ----------------------------------------------------------------------------------

abbrev pub number_at : Bool → ℕ → NumberShown
number_at there n = record { runtime = presence_of there; number = cond there n 0 }

abbrev pub state_at : Bool → RuntimeState → StateShown
state_at there s = record { runtime = presence_of there; state = cond there s Faulted }

abbrev pub no_config : Config
no_config =
    record {
      watchdog_ms = 0;
      state_ttl_ms = 0;
      max_lease_ms = 0;
      max_valid_for_ms = 0;
      invalid_limit = 0;
      estop_mask = 0;
    }

abbrev pub config_at : Bool → Config → ConfigShown
config_at there c = record { runtime = presence_of there; config = cond there c no_config }

abbrev pub no_snapshot : Snapshot
no_snapshot =
    record {
      boot_id = 0;
      epoch = 0;
      now = 0;
      sensor_tick = 0;
      flags = 0;
      state = Faulted;
      active_leases = 0;
      retained_receipts = 0;
      next_receipt_id = 0;
    }

abbrev pub snapshot_of : Fixed → Numbers → ℕ → Snapshot
snapshot_of f n retained =
    record {
      boot_id = f.boot_id;
      epoch = n.epoch;
      now = n.last_tick;
      sensor_tick = n.state_at;
      flags = n.flags;
      state = n.mode.state;
      active_leases = n.held;
      retained_receipts = retained;
      next_receipt_id = n.next_receipt;
    }

abbrev pub snapshot_at : Bool → Fixed → Numbers → ℕ → SnapshotShown
snapshot_at there f n retained = record { runtime = presence_of there; snapshot = cond there (snapshot_of f n retained) no_snapshot }

-- a slot of what may be missing: an absent one holds a blank lease
unfoldable pub slot_with : Option Lease → LeaseSlot
slot_with None = no_lease
slot_with (Some l) = record { presence = Present; lease = l }

abbrev pub lease_shown_at : Bool → Option Lease → LeaseShown
lease_shown_at there l = record { runtime = presence_of there; slot = cond there (slot_with l) no_lease }

abbrev pub place_or16 : ℕ → ℕ → ℕ
place_or16 index count = cond (ltb index count) index 16

abbrev pub no_capability_in : Presence → CapabilityShown
no_capability_in p = record { runtime = p; presence = Absent; capability = no_capability }

abbrev pub capability_at : Bool → ℕ → Capability → CapabilityShown
capability_at false at c = no_capability_in Absent
capability_at true at c = cond (ltb at 16) (record { runtime = Present; presence = Present; capability = c }) (no_capability_in Present)

-- where a receipt is noted: at a place of one circle, and at the spare place of the other
abbrev pub rejected_by : Option Place → ℕ
rejected_by (Some (Place.Rejected place)) = place
rejected_by (Some (Place.Other place)) = 64
rejected_by None = 64

abbrev pub others_by : Option Place → ℕ
others_by (Some (Place.Rejected place)) = 64
others_by (Some (Place.Other place)) = place
others_by None = 64

pub record NotedAs (i : Index) (at : ℕ) (n : Noted) : Type 0 where
  pub found : Option Place
  pub points : Points i at found
  pub rejected : n.rejected ≡ rejected_by found
  pub others : n.others ≡ others_by found

abbrev pub slot_by : Noted → ℕ → ℕ → ℕ
slot_by n rejected other = cond (ltb n.rejected 64) rejected (cond (ltb n.others 64) other 64)

abbrev pub no_receipt_in : Presence → ReceiptShown
no_receipt_in p = record { runtime = p; presence = Absent; receipt = no_receipt }

abbrev pub receipt_at : Bool → ℕ → Receipt → ReceiptShown
receipt_at false slot r = no_receipt_in Absent
receipt_at true slot r = cond (ltb slot 64) (record { runtime = Present; presence = Present; receipt = r }) (no_receipt_in Present)

-- what is shown, in the rules' words -----------------------------------------------------------------------------------------

abbrev shown_if : Presence → Value → Output
shown_if Absent v = NoRuntime
shown_if Present v = Shows v

abbrev value_if : {A : Type 0} → Presence → A → Option A
value_if Absent x = None
value_if Present x = Some x

abbrev pub number_says : NumberShown → Output
number_says r = shown_if r.runtime (OfNumber r.number)

abbrev pub state_says : StateShown → Output
state_says r = shown_if r.runtime (OfState r.state)

abbrev pub config_says : ConfigShown → Output
config_says r = shown_if r.runtime (OfConfig r.config)

abbrev pub snapshot_says : SnapshotShown → Output
snapshot_says r = shown_if r.runtime (OfSnapshot r.snapshot)

abbrev pub lease_says : LeaseShown → Output
lease_says r = shown_if r.runtime (OfLease (lease_in r.slot))

abbrev pub capability_says : CapabilityShown → Output
capability_says r = shown_if r.runtime (OfCapability (value_if r.presence r.capability))

abbrev pub receipt_says : ReceiptShown → Output
receipt_says r = shown_if r.runtime (OfReceipt (value_if r.presence r.receipt))

-- the awaited item ----------------------------------------------------------------------------------------------------------

abbrev no_parameters : List ℤ
no_parameters = pos 0 ∷ pos 0 ∷ []

abbrev item_with : ItemKind → ℕ → Reason → ℕ → List ℤ → Receipt → ItemShown
item_with kind axis reason capability parameters receipt =
    record { kind = kind; axis = axis; reason = reason; capability = capability; parameters = parameters; receipt = receipt }

-- an item of the rules, or none, with blanks for what it has not
unfoldable pub shown_item : Option Protocol.Item → ItemShown
shown_item None = item_with ItemKind.Nothing 0 Ok 0 no_parameters no_receipt
shown_item (Some (ItemObserve axis)) = item_with ItemKind.Observe axis Ok 0 no_parameters no_receipt
shown_item (Some (ItemExecute c ps)) = item_with ItemKind.Execute 0 Ok c ps no_receipt
shown_item (Some (ItemFallback axis reason)) = item_with ItemKind.Fallback axis reason 0 no_parameters no_receipt
shown_item (Some (ItemRecord r)) = item_with ItemKind.Record 0 Ok 0 no_parameters r

-- the awaited item by what is kept of it
unfoldable pub item_from : Awaited → Falling → Capability → List ℤ → Receipt → ItemShown
item_from Awaited.Nothing f c ps r = shown_item None
item_from Awaited.ObserveBefore f c ps r = shown_item (Some (ItemObserve c.resource))
item_from Awaited.Execute f c ps r = shown_item (Some (ItemExecute c.id ps))
item_from Awaited.ObserveAfter f c ps r = shown_item (Some (ItemObserve c.resource))
item_from Awaited.Fallback f c ps r = shown_item (Some (ItemFallback f.axis f.reason))
item_from Awaited.Record f c ps r = shown_item (Some (ItemRecord r))

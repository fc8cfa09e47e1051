-- Where a runtime stands, its start included, and what the public functions ask and promise.
use Rattle.std.specs.Prelude.{ℕ, ◌+◌, true, false, List, [], ◌≡◌, length}
use Rattle.std.specs.Prelude.{None}
use Rattle.model.specs.declared.Presence.TheVariants.{Absent}
use Rattle.model.specs.declared.Reason.TheVariants.{Startup}
use Rattle.model.specs.declared.Receipt.{Receipt}
use Rattle.model.specs.declared.RuntimeState.TheVariants.{Faulted}
use Rattle.model.specs.Records.{no_lease, no_capability, no_receipt}
use Rattle.receipts.specs.Indexes as Indexes
use Rattle.receipts.specs.Indexes.{list_of}
use Rattle.rules.specs.Protocol.{Start, Reading, ReadState, ReadConfig, ReadSnapshot, ReadLease, ReadCapability, ReadReceipt, Phase, Starting, Gone, Reaction, opening, book_in, shown}
use Rattle.state.specs.Axes.{used_from}
use Rattle.state.specs.State.{lease_in, phase_of, output_of, Sound}
use Rattle.state.specs.declared.AfterFallback.TheVariants.{Trip}
use Rattle.state.specs.declared.AfterTrip.TheVariants.{Return}
use Rattle.state.specs.declared.Answer.{Answer}
use Rattle.state.specs.declared.Awaited.TheVariants.{Nothing, Fallback}
use Rattle.state.specs.declared.Falling.{Falling}
use Rattle.decide_read.specs.Shown.{no_config, no_snapshot, number_says, state_says, config_says, snapshot_says, lease_says, capability_says, receipt_says}
use Rattle.decide_read.specs.declared.CapabilityShown.{CapabilityShown}
use Rattle.decide_read.specs.declared.ConfigShown.{ConfigShown}
use Rattle.decide_read.specs.declared.LeaseShown.{LeaseShown}
use Rattle.decide_read.specs.declared.NumberShown.{NumberShown}
use Rattle.decide_read.specs.declared.ReceiptShown.{ReceiptShown}
use Rattle.decide_read.specs.declared.SnapshotShown.{SnapshotShown}
use Rattle.decide_read.specs.declared.StateShown.{StateShown}
use Rattle.decide_start.specs.declared.Stage.{Stage}
use Rattle.decide_start.specs.declared.Stage.TheVariants as Stage
use Rattle.runtime.specs.declared.Places.{Places}
use Rattle.runtime.specs.declared.Runtime.{Runtime}
use Rattle.runtime.specs.Runtimes.{state_in, tables_in, stores_of, book_on}
use Rattle.runtime.specs.Promises.{turns_away, Kept}

-- where a runtime stands -------------------------------------------------------------------------------------------------

-- the arguments of the start, while it goes on
abbrev pub start_in : Runtime → Start
start_in rt =
    record {
      config = rt.fixed.config;
      capabilities = (tables_in rt).capabilities;
      boot_id = rt.fixed.boot_id;
      now = rt.numbers.last_tick;
      flags = rt.numbers.flags;
    }

-- the axis of the fallback in hand is tried, and those after it are to come
abbrev pub trying_in : Runtime → Phase
trying_in rt = Starting (start_in rt) rt.falling.axis (used_from (tables_in rt).capabilities (rt.falling.axis + 1)) rt.starting.good

unfoldable pub phase_at_stage : Stage → Runtime → Phase
phase_at_stage Stage.Trying rt = trying_in rt
phase_at_stage Stage.Gone rt = Gone
phase_at_stage Stage.Started rt = phase_of (state_in rt)

abbrev pub phase_in : Runtime → Phase
phase_in rt = phase_at_stage rt.starting.stage rt

-- soundness --------------------------------------------------------------------------------------------------------------

-- nothing was called yet but startup fallbacks
pub record Opened (rt : Runtime) : Type 0 where
  pub kept : Kept rt
  pub sound : Sound (state_in rt)
  pub book : book_on rt ≡ opening (start_in rt)
  pub reason : rt.falling.reason ≡ Startup

-- .. and the reply of one is awaited
pub record Tries (rt : Runtime) : Type 0 where
  pub opened : Opened rt
  pub awaited : rt.waiting.awaited ≡ Fallback

unfoldable pub SoundAt : Stage → Runtime → Type 0
SoundAt Stage.Trying rt = Tries rt
SoundAt Stage.Gone rt = rt.waiting.awaited ≡ Nothing
SoundAt Stage.Started rt = Sound (state_in rt)

-- the one condition on a runtime: what `new` sets up, and every call and reply keeps
pub record RuntimeSound (rt : Runtime) : Type 0 where
  pub kept : Kept rt
  pub staged : SoundAt rt.starting.stage rt

-- promises ---------------------------------------------------------------------------------------------------------------

-- where a runtime is left, given what the rules say
pub record Moves (rt : Runtime) (answer : Answer) (x : Reaction) : Type 0 where
  pub output : output_of answer (state_in rt) ≡ x.output
  pub phase : phase_in rt ≡ x.phase
  pub sound : RuntimeSound rt

-- 01: what is turned away leaves the "whole state"
pub record Turns (h h' : Runtime) (answer : Answer) (x : Reaction) : Type 0 where
  pub moves : Moves h' answer x
  pub unaltered : turns_away answer ≡ true → h' ≡ h

-- a start ----------------------------------------------------------------------------------------------------------------

abbrev pub starting_on : ℕ → Falling
starting_on axis =
    record { time = 0; axis = axis; at = 0; reason = Startup; after = Trip; good = false; after_trip = Return }

-- no receipt is kept, whatever stands in the slots
pub record Empties (p : Places) : Type 0 where
  pub rejected : length p.rejected ≡ 65
  pub others : length p.others ≡ 65
  pub sound : (slots : List Receipt) → length slots ≡ 65 → Indexes.Sound p.index (stores_of p slots)
  pub nothing : (slots : List Receipt) → list_of p.index (stores_of p slots) ≡ []

-- readings ---------------------------------------------------------------------------------------------------------------
-- What is shown is what the rules show of the phase, and where there is nothing it is blank.

pub record NumberReads (q : Reading) (rt : Runtime) (r : NumberShown) : Type 0 where
  pub shows : number_says r ≡ shown q (book_in (phase_in rt))
  pub blank : r.runtime ≡ Absent → r.number ≡ 0

pub record StateReads (rt : Runtime) (r : StateShown) : Type 0 where
  pub shows : state_says r ≡ shown ReadState (book_in (phase_in rt))
  pub blank : r.runtime ≡ Absent → r.state ≡ Faulted

pub record ConfigReads (rt : Runtime) (r : ConfigShown) : Type 0 where
  pub shows : config_says r ≡ shown ReadConfig (book_in (phase_in rt))
  pub blank : r.runtime ≡ Absent → r.config ≡ no_config

pub record SnapshotReads (rt : Runtime) (r : SnapshotShown) : Type 0 where
  pub shows : snapshot_says r ≡ shown ReadSnapshot (book_in (phase_in rt))
  pub blank : r.runtime ≡ Absent → r.snapshot ≡ no_snapshot

pub record LeaseReads (axis : ℕ) (rt : Runtime) (r : LeaseShown) : Type 0 where
  pub shows : lease_says r ≡ shown (ReadLease axis) (book_in (phase_in rt))
  pub blank : lease_in r.slot ≡ None → r.slot ≡ no_lease
  pub unread : r.runtime ≡ Absent → r.slot ≡ no_lease

pub record CapabilityReads (index : ℕ) (rt : Runtime) (r : CapabilityShown) : Type 0 where
  pub shows : capability_says r ≡ shown (ReadCapability index) (book_in (phase_in rt))
  pub blank : r.presence ≡ Absent → r.capability ≡ no_capability
  pub unread : r.runtime ≡ Absent → r.presence ≡ Absent

pub record ReceiptReads (index : ℕ) (rt : Runtime) (r : ReceiptShown) : Type 0 where
  pub shows : receipt_says r ≡ shown (ReadReceipt index) (book_in (phase_in rt))
  pub blank : r.presence ≡ Absent → r.receipt ≡ no_receipt
  pub unread : r.runtime ≡ Absent → r.presence ≡ Absent

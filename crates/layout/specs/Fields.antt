-- A runtime by its fields, and with one of them altered.
use Rattle.std.specs.Prelude.{ℕ, List}
use Rattle.model.specs.declared.ActiveSlot.{ActiveSlot}
use Rattle.model.specs.declared.Capability.{Capability}
use Rattle.model.specs.declared.LeaseRequest.{LeaseRequest}
use Rattle.model.specs.declared.LeaseSlot.{LeaseSlot}
use Rattle.model.specs.declared.Receipt.{Receipt}
use Rattle.model.specs.declared.Renewal.{Renewal}
use Rattle.model.specs.declared.ReplaySlot.{ReplaySlot}
use Rattle.model.specs.declared.Submission.{Submission}
use Rattle.receipts.specs.declared.Index.{Index}
use Rattle.state.specs.declared.Carrying.{Carrying}
use Rattle.state.specs.declared.Falling.{Falling}
use Rattle.state.specs.declared.Fixed.{Fixed}
use Rattle.state.specs.declared.Numbers.{Numbers}
use Rattle.state.specs.declared.Pending.{Pending}
use Rattle.state.specs.declared.Revoked.{Revoked}
use Rattle.state.specs.declared.Waiting.{Waiting}
use Rattle.state.specs.declared.Why.{Why}
use Rattle.decide_start.specs.declared.Starting.{Starting}
use Rattle.runtime.specs.declared.Places.{Places}
use Rattle.runtime.specs.declared.Runtime.{Runtime}

abbrev pub built : Starting → Waiting → Numbers → ℕ → ℕ → ℕ → Why → Falling → Revoked → Carrying → Pending → Fixed → Places → List LeaseSlot → List ActiveSlot → List Capability → List ReplaySlot → Submission → LeaseRequest → Renewal → Receipt → List Receipt → Runtime
built starting waiting numbers cursor slot axis why falling revoked carrying pending fixed places leases active capabilities replay submission request renewal submitted slots =
    record {
      starting = starting;
      waiting = waiting;
      numbers = numbers;
      cursor = cursor;
      slot = slot;
      axis = axis;
      why = why;
      falling = falling;
      revoked = revoked;
      carrying = carrying;
      pending = pending;
      fixed = fixed;
      places = places;
      leases = leases;
      active = active;
      capabilities = capabilities;
      replay = replay;
      submission = submission;
      request = request;
      renewal = renewal;
      submitted = submitted;
      slots = slots;
    }

abbrev pub with_starting : Starting → Runtime → Runtime
with_starting x h =
    built x h.waiting h.numbers h.cursor h.slot h.axis h.why h.falling h.revoked h.carrying h.pending h.fixed h.places h.leases h.active h.capabilities h.replay h.submission h.request h.renewal h.submitted h.slots

abbrev pub with_waiting : Waiting → Runtime → Runtime
with_waiting x h =
    built h.starting x h.numbers h.cursor h.slot h.axis h.why h.falling h.revoked h.carrying h.pending h.fixed h.places h.leases h.active h.capabilities h.replay h.submission h.request h.renewal h.submitted h.slots

abbrev pub with_numbers : Numbers → Runtime → Runtime
with_numbers x h =
    built h.starting h.waiting x h.cursor h.slot h.axis h.why h.falling h.revoked h.carrying h.pending h.fixed h.places h.leases h.active h.capabilities h.replay h.submission h.request h.renewal h.submitted h.slots

-- the numbers with another one for the next receipt
abbrev pub receipts_to : ℕ → Numbers → Numbers
receipts_to x n =
    record {
      next_receipt = x;
      next_lease = n.next_lease;
      epoch = n.epoch;
      state_at = n.state_at;
      last_tick = n.last_tick;
      flags = n.flags;
      estop_seen = n.estop_seen;
      invalid_count = n.invalid_count;
      mode = n.mode;
      held = n.held;
      soonest = n.soonest;
    }

abbrev pub with_cursor : ℕ → Runtime → Runtime
with_cursor x h =
    built h.starting h.waiting h.numbers x h.slot h.axis h.why h.falling h.revoked h.carrying h.pending h.fixed h.places h.leases h.active h.capabilities h.replay h.submission h.request h.renewal h.submitted h.slots

abbrev pub with_slot : ℕ → Runtime → Runtime
with_slot x h =
    built h.starting h.waiting h.numbers h.cursor x h.axis h.why h.falling h.revoked h.carrying h.pending h.fixed h.places h.leases h.active h.capabilities h.replay h.submission h.request h.renewal h.submitted h.slots

abbrev pub with_axis : ℕ → Runtime → Runtime
with_axis x h =
    built h.starting h.waiting h.numbers h.cursor h.slot x h.why h.falling h.revoked h.carrying h.pending h.fixed h.places h.leases h.active h.capabilities h.replay h.submission h.request h.renewal h.submitted h.slots

abbrev pub with_why : Why → Runtime → Runtime
with_why x h =
    built h.starting h.waiting h.numbers h.cursor h.slot h.axis x h.falling h.revoked h.carrying h.pending h.fixed h.places h.leases h.active h.capabilities h.replay h.submission h.request h.renewal h.submitted h.slots

abbrev pub with_falling : Falling → Runtime → Runtime
with_falling x h =
    built h.starting h.waiting h.numbers h.cursor h.slot h.axis h.why x h.revoked h.carrying h.pending h.fixed h.places h.leases h.active h.capabilities h.replay h.submission h.request h.renewal h.submitted h.slots

abbrev pub with_revoked : Revoked → Runtime → Runtime
with_revoked x h =
    built h.starting h.waiting h.numbers h.cursor h.slot h.axis h.why h.falling x h.carrying h.pending h.fixed h.places h.leases h.active h.capabilities h.replay h.submission h.request h.renewal h.submitted h.slots

abbrev pub with_carrying : Carrying → Runtime → Runtime
with_carrying x h =
    built h.starting h.waiting h.numbers h.cursor h.slot h.axis h.why h.falling h.revoked x h.pending h.fixed h.places h.leases h.active h.capabilities h.replay h.submission h.request h.renewal h.submitted h.slots

abbrev pub with_pending : Pending → Runtime → Runtime
with_pending x h =
    built h.starting h.waiting h.numbers h.cursor h.slot h.axis h.why h.falling h.revoked h.carrying x h.fixed h.places h.leases h.active h.capabilities h.replay h.submission h.request h.renewal h.submitted h.slots

abbrev pub with_fixed : Fixed → Runtime → Runtime
with_fixed x h =
    built h.starting h.waiting h.numbers h.cursor h.slot h.axis h.why h.falling h.revoked h.carrying h.pending x h.places h.leases h.active h.capabilities h.replay h.submission h.request h.renewal h.submitted h.slots

abbrev pub with_leases : List LeaseSlot → Runtime → Runtime
with_leases x h =
    built h.starting h.waiting h.numbers h.cursor h.slot h.axis h.why h.falling h.revoked h.carrying h.pending h.fixed h.places x h.active h.capabilities h.replay h.submission h.request h.renewal h.submitted h.slots

abbrev pub with_active : List ActiveSlot → Runtime → Runtime
with_active x h =
    built h.starting h.waiting h.numbers h.cursor h.slot h.axis h.why h.falling h.revoked h.carrying h.pending h.fixed h.places h.leases x h.capabilities h.replay h.submission h.request h.renewal h.submitted h.slots

abbrev pub with_capabilities : List Capability → Runtime → Runtime
with_capabilities x h =
    built h.starting h.waiting h.numbers h.cursor h.slot h.axis h.why h.falling h.revoked h.carrying h.pending h.fixed h.places h.leases h.active x h.replay h.submission h.request h.renewal h.submitted h.slots

abbrev pub with_replay : List ReplaySlot → Runtime → Runtime
with_replay x h =
    built h.starting h.waiting h.numbers h.cursor h.slot h.axis h.why h.falling h.revoked h.carrying h.pending h.fixed h.places h.leases h.active h.capabilities x h.submission h.request h.renewal h.submitted h.slots

abbrev pub with_submission : Submission → Runtime → Runtime
with_submission x h =
    built h.starting h.waiting h.numbers h.cursor h.slot h.axis h.why h.falling h.revoked h.carrying h.pending h.fixed h.places h.leases h.active h.capabilities h.replay x h.request h.renewal h.submitted h.slots

abbrev pub with_request : LeaseRequest → Runtime → Runtime
with_request x h =
    built h.starting h.waiting h.numbers h.cursor h.slot h.axis h.why h.falling h.revoked h.carrying h.pending h.fixed h.places h.leases h.active h.capabilities h.replay h.submission x h.renewal h.submitted h.slots

abbrev pub with_renewal : Renewal → Runtime → Runtime
with_renewal x h =
    built h.starting h.waiting h.numbers h.cursor h.slot h.axis h.why h.falling h.revoked h.carrying h.pending h.fixed h.places h.leases h.active h.capabilities h.replay h.submission h.request x h.submitted h.slots

abbrev pub with_submitted : Receipt → Runtime → Runtime
with_submitted x h =
    built h.starting h.waiting h.numbers h.cursor h.slot h.axis h.why h.falling h.revoked h.carrying h.pending h.fixed h.places h.leases h.active h.capabilities h.replay h.submission h.request h.renewal x h.slots

abbrev pub with_slots : List Receipt → Runtime → Runtime
with_slots x h =
    built h.starting h.waiting h.numbers h.cursor h.slot h.axis h.why h.falling h.revoked h.carrying h.pending h.fixed h.places h.leases h.active h.capabilities h.replay h.submission h.request h.renewal h.submitted x

-- the places of the receipts
abbrev pub with_places : Places → Runtime → Runtime
with_places x h =
    built h.starting h.waiting h.numbers h.cursor h.slot h.axis h.why h.falling h.revoked h.carrying h.pending h.fixed x h.leases h.active h.capabilities h.replay h.submission h.request h.renewal h.submitted h.slots

abbrev pub with_index : Index → Runtime → Runtime
with_index x h = with_places (record { index = x; rejected = h.places.rejected; others = h.places.others }) h

abbrev pub with_rejected : List ℕ → Runtime → Runtime
with_rejected x h = with_places (record { index = h.places.index; rejected = x; others = h.places.others }) h

abbrev pub with_others : List ℕ → Runtime → Runtime
with_others x h = with_places (record { index = h.places.index; rejected = h.places.rejected; others = x }) h

-- What each store leaves, field by field: the runtime with a course followed, a receipt recorded, ..
use Rattle.std.specs.Prelude.{ℕ, Bool, cond, ◌≡◌, get_or, set}
use Rattle.model.specs.declared.ActiveSlot.{ActiveSlot}
use Rattle.model.specs.declared.LeaseSlot.{LeaseSlot}
use Rattle.model.specs.declared.Presence.TheVariants.{Absent}
use Rattle.model.specs.declared.Receipt.{Receipt}
use Rattle.model.specs.Records.{no_lease, no_active}
use Rattle.receipts.specs.declared.Index.{Index}
use Rattle.receipts.specs.declared.Pushed.{Pushed}
use Rattle.receipts.specs.Indexes.{Numbered, Pushes}
use Rattle.rules.specs.Receipts.{bump}
use Rattle.rules.specs.Rules.{lease_id, lease_owner}
use Rattle.state.specs.State.{lease_in}
use Rattle.state.specs.Stores.{numbers_after, without, soonest_with, awaiting}
use Rattle.state.specs.declared.AfterRecord.{AfterRecord}
use Rattle.state.specs.declared.Awaited.TheVariants as Awaited
use Rattle.state.specs.declared.Course.{Course}
use Rattle.state.specs.declared.Waiting.{Waiting}
use Rattle.state.specs.declared.Way.{Way}
use Rattle.state.specs.declared.Way.TheVariants.{Falls, Ends, GoesOn}
use Rattle.runtime.specs.declared.Placement.{Placement}
use Rattle.runtime.specs.declared.Runtime.{Runtime}

-- a slot emptied: what stood in it stays there, unseen
abbrev pub emptied : LeaseSlot → LeaseSlot
emptied s = record { presence = Absent; lease = s.lease }

abbrev pub idled : ActiveSlot → ActiveSlot
idled s = record { presence = Absent; active = s.active }

-- the axis that a course clears; the one past the last where it clears none
abbrev pub clears : Way → ℕ → ℕ
clears Falls axis = axis
clears Ends axis = 8
clears GoesOn axis = 8

abbrev pub waits_by : Way → Waiting
waits_by Falls = awaiting Awaited.Fallback
waits_by Ends = awaiting Awaited.Nothing
waits_by GoesOn = awaiting Awaited.Nothing

-- a course followed
abbrev pub followed_at : ℕ → Waiting → Course → Runtime → Runtime
followed_at axis w c rt =
    let l = lease_in (get_or rt.leases axis no_lease) in
    let held = without l rt.numbers.held in
    record {
      starting = rt.starting;
      waiting = w;
      numbers = numbers_after c held (soonest_with held rt.numbers.soonest) rt.numbers;
      cursor = rt.cursor;
      slot = rt.slot;
      axis = rt.axis;
      why = c.why;
      falling = c.falling;
      revoked = record { lease_id = lease_id l; owner = lease_owner l; ok = rt.revoked.ok };
      carrying = rt.carrying;
      pending = rt.pending;
      fixed = rt.fixed;
      places = rt.places;
      leases = set rt.leases axis (emptied (get_or rt.leases axis no_lease));
      active = set rt.active axis (idled (get_or rt.active axis no_active));
      capabilities = rt.capabilities;
      replay = rt.replay;
      submission = rt.submission;
      request = rt.request;
      renewal = rt.renewal;
      submitted = rt.submitted;
      slots = rt.slots;
    }

abbrev pub followed_in : Course → Runtime → Runtime
followed_in c rt = followed_at (clears c.way c.falling.axis) (waits_by c.way) c rt

-- a receipt ---------------------------------------------------------------------------------------------------------------

-- the slot number of the oldest of each circle
abbrev pub oldest_rejected : Runtime → ℕ
oldest_rejected rt = get_or rt.places.rejected rt.places.index.rejected.head 0

abbrev pub oldest_other : Runtime → ℕ
oldest_other rt = get_or rt.places.others rt.places.index.others.head 0

-- the numbers of the index, by themselves
abbrev pub Indexed : Index → Type 0
Indexed i = Numbered i

-- a push, and the place of the other circle left alone
pub record PlacesAs (i : Index) (rejection : Bool) (oldest_rejected oldest_other : ℕ) (p : Placement) : Type 0 where
  pub pushed : Pushed
  pub pushes : Pushes i rejection oldest_rejected oldest_other pushed
  pub index : p.index ≡ pushed.index
  pub slot : p.slot ≡ pushed.slot
  pub rejected : p.rejected_at ≡ cond rejection pushed.place 64
  pub others : p.others_at ≡ cond rejection 64 pushed.place

-- a slot taken for the next receipt, which is to be recorded
abbrev pub placed_in : Placement → AfterRecord → Runtime → Runtime
placed_in p after rt =
    record {
      starting = rt.starting;
      waiting = record { awaited = Awaited.Record; after_record = after };
      numbers =
          record {
            next_receipt = bump rt.numbers.next_receipt;
            next_lease = rt.numbers.next_lease;
            epoch = rt.numbers.epoch;
            state_at = rt.numbers.state_at;
            last_tick = rt.numbers.last_tick;
            flags = rt.numbers.flags;
            estop_seen = rt.numbers.estop_seen;
            invalid_count = rt.numbers.invalid_count;
            mode = rt.numbers.mode;
            held = rt.numbers.held;
            soonest = rt.numbers.soonest;
          };
      cursor = rt.cursor;
      slot = p.slot;
      axis = rt.axis;
      why = rt.why;
      falling = rt.falling;
      revoked = rt.revoked;
      carrying = rt.carrying;
      pending = rt.pending;
      fixed = rt.fixed;
      places =
          record {
            index = p.index;
            rejected = set rt.places.rejected p.rejected_at p.slot;
            others = set rt.places.others p.others_at p.slot;
          };
      leases = rt.leases;
      active = rt.active;
      capabilities = rt.capabilities;
      replay = rt.replay;
      submission = rt.submission;
      request = rt.request;
      renewal = rt.renewal;
      submitted = rt.submitted;
      slots = rt.slots;
    }

-- a receipt put into a slot
abbrev pub filled_in : ℕ → Receipt → Runtime → Runtime
filled_in slot r rt =
    record {
      starting = rt.starting;
      waiting = rt.waiting;
      numbers = rt.numbers;
      cursor = rt.cursor;
      slot = rt.slot;
      axis = rt.axis;
      why = rt.why;
      falling = rt.falling;
      revoked = rt.revoked;
      carrying = rt.carrying;
      pending = rt.pending;
      fixed = rt.fixed;
      places = rt.places;
      leases = rt.leases;
      active = rt.active;
      capabilities = rt.capabilities;
      replay = rt.replay;
      submission = rt.submission;
      request = rt.request;
      renewal = rt.renewal;
      submitted = rt.submitted;
      slots = set rt.slots slot r;
    }

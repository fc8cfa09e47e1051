-- What the decisions on an order are shown, and the state with a rejection or an admission stored.
use Rattle.std.specs.Prelude.{ℕ, Bool, true, cond, ◌∷◌, ◌≡◌, get_or, set, take}
use Rattle.std.specs.Prelude.{Option, Some, None}
use Rattle.model.specs.declared.Capability.{Capability}
use Rattle.model.specs.declared.Lease.{Lease}
use Rattle.model.specs.declared.LeaseSlot.{LeaseSlot}
use Rattle.model.specs.declared.Presence.{Presence}
use Rattle.model.specs.declared.Presence.TheVariants.{Absent, Present}
use Rattle.model.specs.declared.Replay.{Replay}
use Rattle.model.specs.declared.ReplaySlot.{ReplaySlot}
use Rattle.rules.specs.Admission.{with_id}
use Rattle.rules.specs.Rules.{replay_capacity, with_sequence}
use Rattle.state.specs.State.{lease_in, Tables, State, state}
use Rattle.state.specs.Stores.{awaiting, recorded}
use Rattle.state.specs.declared.AfterRecord.TheVariants as AfterRecord
use Rattle.state.specs.declared.Awaited.TheVariants as Awaited
use Rattle.state.specs.declared.Numbers.{Numbers}
use Rattle.decide_order.specs.declared.Admitting.{Admitting}
use Rattle.decide_order.specs.declared.Rejecting.{Rejecting}

-- what a slot of the replay ring holds
abbrev pub entry_if : Presence → Replay → Option Replay
entry_if Absent e = None
entry_if Present e = Some e

abbrev pub entry_in : ReplaySlot → Option Replay
entry_in s = entry_if s.presence s.replay

-- the first record with the id that an order names, if there is one, and what stands in the slot of its axis
pub record ShowsOrder (id : ℕ) (known : Bool) (c : Capability) (slot : LeaseSlot) (t : Tables) : Type 0 where
  pub found : with_id id t.capabilities ≡ cond known (Some c) None
  pub shown : known ≡ true → lease_in slot ≡ get_or t.leases c.resource None

abbrev pub counting_to : ℕ → Numbers → Numbers
counting_to count n =
    record {
      next_receipt = n.next_receipt;
      next_lease = n.next_lease;
      epoch = n.epoch;
      state_at = n.state_at;
      last_tick = n.last_tick;
      flags = n.flags;
      estop_seen = n.estop_seen;
      invalid_count = count;
      mode = n.mode;
      held = n.held;
      soonest = n.soonest;
    }

-- a rejection stored: counted, then its receipt
unfoldable pub rejected : Rejecting → State → State
rejected r s =
    recorded r.receipt AfterRecord.Rejected (state s.fixed (counting_to r.invalid_count s.numbers) s.tables s.asked s.hand)

unfoldable pub sequenced : ℕ → Option Lease → Option Lease
sequenced sequence None = None
sequenced sequence (Some l) = Some (with_sequence sequence l)

-- an admission stored: the sequence of the lease on the axis, the replay entry, the order in hand, and the first observation's reply awaited
unfoldable pub admitted : Admitting → Capability → ℕ → State → State
admitted a c sequence s =
    state s.fixed s.numbers
    (record {
      capabilities = s.tables.capabilities;
      leases = set s.tables.leases c.resource (sequenced sequence (get_or s.tables.leases c.resource None));
      active = s.tables.active;
      replay = take replay_capacity (a.entry ∷ s.tables.replay);
      receipts = s.tables.receipts;
    })
    s.asked
    (record {
      waiting = awaiting Awaited.ObserveBefore;
      falling = s.hand.falling;
      revoked = s.hand.revoked;
      order = record { capability = c; end = a.end; pre_state = s.hand.order.pre_state };
      receipt = s.hand.receipt;
      axis = s.hand.axis;
      reason = s.hand.reason;
    })

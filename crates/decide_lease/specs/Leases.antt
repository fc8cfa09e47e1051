-- What the decisions on leases are shown, and the state with a grant or a renewal stored.
use Rattle.std.specs.Prelude.{ℕ, ◌≡◌, get_or, set}
use Rattle.std.specs.Prelude.{Option, Some, None}
use Rattle.model.specs.declared.Lease.{Lease}
use Rattle.model.specs.declared.LeaseSlot.{LeaseSlot}
use Rattle.rules.specs.Admission.{allowed}
use Rattle.state.specs.Axes.{first_held}
use Rattle.state.specs.State.{lease_in, Tables, Hand, State, state}
use Rattle.state.specs.Stores.{recorded}
use Rattle.state.specs.declared.AfterRecord.TheVariants as AfterRecord
use Rattle.state.specs.declared.Mode.{Mode}
use Rattle.state.specs.declared.Numbers.{Numbers}
use Rattle.decide_lease.specs.declared.Granting.{Granting}
use Rattle.decide_lease.specs.declared.Renewing.{Renewing}

-- the capabilities of the axis that a request names, as bits, and what stands in its slot
pub record ShowsAxis (axis mask : ℕ) (slot : LeaseSlot) (t : Tables) : Type 0 where
  pub allowed : mask ≡ allowed t.capabilities axis
  pub shown : lease_in slot ≡ get_or t.leases axis None

-- the axis of the lease with this owner and id, or 8, and what stands in its slot
pub record ShowsHeld (owner id axis : ℕ) (slot : LeaseSlot) (t : Tables) : Type 0 where
  pub first : axis ≡ first_held owner id t.leases
  pub shown : lease_in slot ≡ get_or t.leases axis None

abbrev pub leased_at : ℕ → Option Lease → Tables → Tables
leased_at axis l t =
    record {
      capabilities = t.capabilities;
      leases = set t.leases axis l;
      active = t.active;
      replay = t.replay;
      receipts = t.receipts;
    }

abbrev pub answering : ℕ → Hand → Hand
answering axis h =
    record {
      waiting = h.waiting;
      falling = h.falling;
      revoked = h.revoked;
      order = h.order;
      receipt = h.receipt;
      axis = axis;
      reason = h.reason;
    }

abbrev pub numbers_with : ℕ → ℕ → Mode → ℕ → ℕ → Numbers → Numbers
numbers_with next_lease epoch mode held soonest n =
    record {
      next_receipt = n.next_receipt;
      next_lease = next_lease;
      epoch = epoch;
      state_at = n.state_at;
      last_tick = n.last_tick;
      flags = n.flags;
      estop_seen = n.estop_seen;
      invalid_count = n.invalid_count;
      mode = mode;
      held = held;
      soonest = soonest;
    }

-- a grant stored: the lease on its axis, the numbers, then its receipt
unfoldable pub granted : Granting → ℕ → State → State
granted g axis s =
    recorded g.receipt AfterRecord.Lease
    (state s.fixed (numbers_with g.next_lease g.epoch g.mode g.held g.soonest s.numbers)
    (leased_at axis (lease_in g.lease) s.tables) s.asked (answering axis s.hand))

-- a lease with another end and number of renewal
unfoldable pub lengthened_to : ℕ → ℕ → Option Lease → Option Lease
lengthened_to end renewal None = None
lengthened_to end renewal (Some l) =
    Some
    (record {
      id = l.id;
      owner = l.owner;
      resource = l.resource;
      capabilities = l.capabilities;
      expires_at = end;
      limits = l.limits;
      last_sequence = l.last_sequence;
      last_renewal = renewal;
    })

-- a renewal stored: the end and the number of the lease on its axis, then its receipt
unfoldable pub lengthened : Renewing → ℕ → ℕ → State → State
lengthened r axis renewal s =
    recorded r.receipt AfterRecord.Lease
    (state s.fixed
    (numbers_with s.numbers.next_lease s.numbers.epoch s.numbers.mode s.numbers.held r.soonest s.numbers)
    (leased_at axis (lengthened_to r.expires_at renewal (get_or s.tables.leases axis None)) s.tables) s.asked (answering axis s.hand))

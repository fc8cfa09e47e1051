-- What the calls leave in their own fields.
use Rattle.std.specs.Prelude.{ℕ, List}
use Rattle.model.specs.declared.LeaseSlot.{LeaseSlot}
use Rattle.runtime.specs.Promises.{Good, Begins, Tightens}
use Rattle.state.specs.declared.Numbers.{Numbers}
use Rattle.state.specs.declared.Pending.{Pending}
use Rattle.decide_tick.specs.declared.Begun.{Begun}
use Rattle.layout.specs.Layout.{runtime_in, Same}

-- a slot whose lease has the end and the number of its renewal
abbrev pub lengthened_slot : ℕ → ℕ → LeaseSlot → LeaseSlot
lengthened_slot end renewal s =
    record {
      presence = s.presence;
      lease =
          record {
            id = s.lease.id;
            owner = s.lease.owner;
            resource = s.lease.resource;
            capabilities = s.lease.capabilities;
            expires_at = end;
            limits = s.lease.limits;
            last_sequence = s.lease.last_sequence;
            last_renewal = renewal;
          };
    }

-- .. has seen this sequence
abbrev pub sequenced_slot : ℕ → LeaseSlot → LeaseSlot
sequenced_slot sequence s =
    record {
      presence = s.presence;
      lease =
          record {
            id = s.lease.id;
            owner = s.lease.owner;
            resource = s.lease.resource;
            capabilities = s.lease.capabilities;
            expires_at = s.lease.expires_at;
            limits = s.lease.limits;
            last_sequence = sequence;
            last_renewal = s.lease.last_renewal;
          };
    }

-- the soonest end made exact
abbrev pub sooner_at : ℕ → Numbers → Numbers
sooner_at soonest n =
    record {
      next_receipt = n.next_receipt;
      next_lease = n.next_lease;
      epoch = n.epoch;
      state_at = n.state_at;
      last_tick = n.last_tick;
      flags = n.flags;
      estop_seen = n.estop_seen;
      invalid_count = n.invalid_count;
      mode = n.mode;
      held = n.held;
      soonest = soonest;
    }

-- the call in hand at another time
abbrev pub pending_at : ℕ → Pending → Pending
pending_at time p = record { kind = p.kind; flags = p.flags; now = time; owner = p.owner; lease_id = p.lease_id }

-- how a call begins
pub record BeginsIn (time : ℕ) (w w' : List ℕ) (g : Begun) : Type 0 where
  pub same : Same w w'
  pub begins : Good (runtime_in w) → Begins time (runtime_in w) (runtime_in w') g

-- nothing is altered that the rules know
pub record TightensIn (w w' : List ℕ) : Type 0 where
  pub same : Same w w'
  pub tightens : Good (runtime_in w) → Tightens (runtime_in w) (runtime_in w')

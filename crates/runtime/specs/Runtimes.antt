-- Which state a runtime is, and what it is sound by.
use Rattle.std.specs.Prelude.{ℕ, ◌<◌, ◌≤◌, List, map, ◌≡◌, length, get_or, take}
use Rattle.std.specs.Prelude.{None}
use Rattle.model.specs.declared.Receipt.{Receipt}
use Rattle.model.specs.Records.{no_lease, no_active, no_capability, no_receipt}
use Rattle.receipts.specs.Indexes.{Stores, list_of}
use Rattle.receipts.specs.Indexes as Indexes
use Rattle.replay.specs.declared.ReplayRing.{ReplayRing}
use Rattle.replay.specs.Ring as Ring
use Rattle.replay.specs.Promises as Replay
use Rattle.rules.specs.Book.{Book}
use Rattle.state.specs.State.{lease_in, active_in, Tables, Asked, Order, Hand, State, state, book_in}
use Rattle.runtime.specs.declared.Places.{Places}
use Rattle.runtime.specs.declared.Runtime.{Runtime}

-- the tables -------------------------------------------------------------------------------------------------------------

-- what the index of the receipts stands over
abbrev pub stores_of : Places → List Receipt → Stores
stores_of p slots = record { rejections = take 64 p.rejected; others = take 64 p.others; receipts = take 64 slots }

-- the receipts kept, oldest first
abbrev pub receipts_in : Runtime → List Receipt
receipts_in rt = list_of rt.places.index (stores_of rt.places rt.slots)

abbrev pub ring_in : Runtime → ReplayRing
ring_in rt = record { entries = take 32 rt.replay; cursor = rt.cursor }

abbrev pub tables_in : Runtime → Tables
tables_in rt =
    record {
      capabilities = take rt.fixed.count rt.capabilities;
      leases = map lease_in (take 8 rt.leases);
      active = map active_in (take 8 rt.active);
      replay = Ring.list_of (ring_in rt);
      receipts = receipts_in rt;
    }

-- the call in hand -------------------------------------------------------------------------------------------------------

abbrev pub asked_in : Runtime → Asked
asked_in rt =
    record { pending = rt.pending; request = rt.request; renewal = rt.renewal; submission = rt.submission; submitted = rt.submitted }

-- .. at another time
abbrev pub asked_at : ℕ → Runtime → Asked
asked_at time rt =
    record {
      pending =
          record {
            kind = rt.pending.kind;
            flags = rt.pending.flags;
            now = time;
            owner = rt.pending.owner;
            lease_id = rt.pending.lease_id;
          };
      request = rt.request;
      renewal = rt.renewal;
      submission = rt.submission;
      submitted = rt.submitted;
    }

abbrev pub order_in : Runtime → Order
order_in rt =
    record {
      capability = get_or rt.capabilities rt.carrying.at no_capability;
      end = rt.carrying.end;
      pre_state = rt.carrying.pre_state;
    }

abbrev pub hand_in : Runtime → Hand
hand_in rt =
    record {
      waiting = rt.waiting;
      falling = rt.falling;
      revoked = rt.revoked;
      order = order_in rt;
      receipt = get_or rt.slots rt.slot no_receipt;
      axis = rt.axis;
      reason = rt.why.reason;
    }

abbrev pub state_in : Runtime → State
state_in rt = state rt.fixed rt.numbers (tables_in rt) (asked_in rt) (hand_in rt)

-- the book that it keeps
abbrev pub book_on : Runtime → Book
book_on rt = book_in (state_in rt)

-- soundness of the tables -------------------------------------------------------------------------------------------------

-- each table has its elements and one more, and the last of the leases and of the orders holds none
pub record Sized (rt : Runtime) : Type 0 where
  pub leases : length rt.leases ≡ 9
  pub active : length rt.active ≡ 9
  pub capabilities : length rt.capabilities ≡ 17
  pub replay : length rt.replay ≡ 33
  pub rejected : length rt.places.rejected ≡ 65
  pub others : length rt.places.others ≡ 65
  pub slots : length rt.slots ≡ 65
  pub lease : lease_in (get_or rt.leases 8 no_lease) ≡ None
  pub order : active_in (get_or rt.active 8 no_active) ≡ None

-- what stands at the places that are stored
pub record Placed (rt : Runtime) : Type 0 where
  pub count : rt.fixed.count ≤ 16
  pub slot : rt.slot < 65
  pub capability : rt.carrying.at < 17
  pub replay : Replay.Sound (ring_in rt)
  pub receipts : Indexes.Sound rt.places.index (stores_of rt.places rt.slots)

-- What a decision says is to be stored, and the state with it stored. A decision promises for any tables that hold what it was shown.
use Rattle.std.specs.Prelude.{ℕ, ◌-◌, Bool, true, false, cond, ◌≡◌, eqb, get_or, set}
use Rattle.std.specs.Prelude.{Option, Some, None}
use Rattle.model.specs.declared.Lease.{Lease}
use Rattle.model.specs.declared.Reason.{Reason}
use Rattle.model.specs.declared.Receipt.{Receipt}
use Rattle.rules.specs.Book.{Book}
use Rattle.rules.specs.Interaction.{Interaction}
use Rattle.rules.specs.Protocol.{proceed}
use Rattle.rules.specs.Receipts.{top, bump, keep, receipt_capacity}
use Rattle.rules.specs.Rules.{lease_id, lease_owner}
use Rattle.state.specs.State.{Tables, Asked, Hand, State, state, book_of, book_in, after_tick, reaction_of, InBounds, Sound}
use Rattle.state.specs.declared.AfterRecord.{AfterRecord}
use Rattle.state.specs.declared.Answer.{Answer}
use Rattle.state.specs.declared.Awaited.{Awaited}
use Rattle.state.specs.declared.Course.{Course}
use Rattle.state.specs.declared.Falling.{Falling}
use Rattle.state.specs.declared.Fixed.{Fixed}
use Rattle.state.specs.declared.Numbers.{Numbers}
use Rattle.state.specs.declared.Waiting.{Waiting}
use Rattle.state.specs.declared.Way.{Way}
use Rattle.state.specs.declared.Way.TheVariants.{Falls, Ends, GoesOn}

-- a course -------------------------------------------------------------------------------------------------------------

-- with the numbers as they are
abbrev pub course_of : Numbers → Falling → Way → Answer → Reason → Course
course_of n f way answer reason =
    record {
      falling = f;
      last_tick = n.last_tick;
      state_at = n.state_at;
      epoch = n.epoch;
      flags = n.flags;
      estop_seen = n.estop_seen;
      invalid_count = n.invalid_count;
      mode = n.mode;
      way = way;
      answer = answer;
      why = record { reason = reason };
    }

abbrev pub numbers_after : Course → ℕ → ℕ → Numbers → Numbers
numbers_after c held soonest n =
    record {
      next_receipt = n.next_receipt;
      next_lease = n.next_lease;
      epoch = c.epoch;
      state_at = c.state_at;
      last_tick = c.last_tick;
      flags = c.flags;
      estop_seen = c.estop_seen;
      invalid_count = c.invalid_count;
      mode = c.mode;
      held = held;
      soonest = soonest;
    }

-- how many leases stand without this one
unfoldable pub without : Option Lease → ℕ → ℕ
without None held = held
without (Some l) held = held - 1

-- where no lease stands nothing ends: an active order has a lease
unfoldable pub soonest_with : ℕ → ℕ → ℕ
soonest_with held soonest = cond (eqb held 0) top soonest

abbrev pub awaiting : Awaited → Waiting
awaiting w = record { awaited = w; after_record = AfterRecord.Fallback }

abbrev pub cleared_at : ℕ → Tables → Tables
cleared_at axis t =
    record {
      capabilities = t.capabilities;
      leases = set t.leases axis None;
      active = set t.active axis None;
      replay = t.replay;
      receipts = t.receipts;
    }

-- the fallback in hand, the lease that it took, if any, and what is awaited
abbrev pub falling_with : Course → Option Lease → Waiting → Hand → Hand
falling_with c l w h =
    record {
      waiting = w;
      falling = c.falling;
      revoked = record { lease_id = lease_id l; owner = lease_owner l; ok = h.revoked.ok };
      order = h.order;
      receipt = h.receipt;
      axis = h.axis;
      reason = c.why.reason;
    }

-- the axis of the fallback cleared, and its reply awaited
unfoldable pub fallen : Course → State → State
fallen c s =
    let l = get_or s.tables.leases c.falling.axis None in
    let held = without l s.numbers.held in
    state s.fixed (numbers_after c held (soonest_with held s.numbers.soonest) s.numbers) (cleared_at c.falling.axis s.tables) s.asked
    (falling_with c l (awaiting Awaited.Fallback) s.hand)

-- no reply awaited
unfoldable pub ended : Course → State → State
ended c s =
    state s.fixed (numbers_after c s.numbers.held (soonest_with s.numbers.held s.numbers.soonest) s.numbers) s.tables s.asked
    (falling_with c None (awaiting Awaited.Nothing) s.hand)

-- a course taken
unfoldable pub followed_by : Way → Course → State → State
followed_by Falls c s = fallen c s
followed_by Ends c s = ended c s
followed_by GoesOn c s = ended c s

abbrev pub followed : Course → State → State
followed c s = followed_by c.way c s

abbrev pub goes_on : Way → Bool
goes_on Falls = false
goes_on Ends = false
goes_on GoesOn = true

-- a course that ends with an item or an answer
abbrev pub Settles : Course → Type 0
Settles c = goes_on c.way ≡ false

-- what it then gives: a reaction, or what the call in hand does after its opening tick
unfoldable pub Reaches : Way → Course → State → Interaction → Type 0
Reaches Falls c s i = reaction_of c.answer (fallen c s) ≡ proceed i
Reaches Ends c s i = reaction_of c.answer (ended c s) ≡ proceed i
Reaches GoesOn c s i = proceed (after_tick s.asked (book_in (ended c s))) ≡ proceed i

pub record Leads (c : Course) (s : State) (i : Interaction) : Type 0 where
  pub falling : InBounds c.falling
  pub reaches : Reaches c.way c s i

-- what a decision promises of its course: in every sound state with these numbers, and whose tables are as was shown, it leads where the
-- rule does
abbrev pub TakesWhere : Fixed → Numbers → Course → (Tables → Type 0) → (Book → Asked → Interaction) → Type 0
TakesWhere f n c shown rule = (t : Tables) (q : Asked) (h : Hand) → Sound (state f n t q h) → shown t → Leads c (state f n t q h) (rule (book_of f n t) q)

abbrev pub Takes : Fixed → Numbers → Course → (Book → Asked → Interaction) → Type 0
Takes f n c rule = (t : Tables) (q : Asked) (h : Hand) → Sound (state f n t q h) → Leads c (state f n t q h) (rule (book_of f n t) q)

-- a receipt ------------------------------------------------------------------------------------------------------------

-- one more receipt, which has its number: kept, and its record item's reply awaited
unfoldable pub recorded : Receipt → AfterRecord → State → State
recorded r after s =
    record {
      fixed = s.fixed;
      numbers =
          record {
            next_receipt = bump s.numbers.next_receipt;
            next_lease = s.numbers.next_lease;
            epoch = s.numbers.epoch;
            state_at = s.numbers.state_at;
            last_tick = s.numbers.last_tick;
            flags = s.numbers.flags;
            estop_seen = s.numbers.estop_seen;
            invalid_count = s.numbers.invalid_count;
            mode = s.numbers.mode;
            held = s.numbers.held;
            soonest = s.numbers.soonest;
          };
      tables =
          record {
            capabilities = s.tables.capabilities;
            leases = s.tables.leases;
            active = s.tables.active;
            replay = s.tables.replay;
            receipts = keep receipt_capacity s.tables.receipts r;
          };
      asked = s.asked;
      hand =
          record {
            waiting = record { awaited = Awaited.Record; after_record = after };
            falling = s.hand.falling;
            revoked = s.hand.revoked;
            order = s.hand.order;
            receipt = r;
            axis = s.hand.axis;
            reason = s.hand.reason;
          };
    }

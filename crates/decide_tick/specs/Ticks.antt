-- What the decisions of a tick are shown, and what a quiet tick leaves.
use Rattle.std.specs.Prelude.{ℕ, ◌<◌, ◌≡◌, get_or}
use Rattle.std.specs.Prelude.{Option, Some, None}
use Rattle.model.specs.declared.Active.{Active}
use Rattle.model.specs.declared.Lease.{Lease}
use Rattle.model.specs.declared.LeaseSlot.{LeaseSlot}
use Rattle.rules.specs.Book.{Book}
use Rattle.rules.specs.Interaction.{Interaction}
use Rattle.rules.specs.Receipts.{top}
use Rattle.rules.specs.Rules.{tick, refresh_state}
use Rattle.rules.specs.With.{with_last_tick}
use Rattle.state.specs.Axes.{first_due}
use Rattle.state.specs.State.{lease_in, Tables, Asked, Hand, state, book_of, Sound}
use Rattle.state.specs.declared.Fixed.{Fixed}
use Rattle.state.specs.declared.Mode.{Mode}
use Rattle.state.specs.declared.Numbers.{Numbers}
use Rattle.decide_tick.specs.declared.Begun.{Begun}
use Rattle.decide_tick.specs.declared.Begun.TheVariants.{Quiet, Busy}
use Rattle.decide_tick.specs.declared.Opening.{Opening}

-- the end of a lease and of an active order; where there is none, the top
unfoldable pub lease_end : Option Lease → ℕ
lease_end None = top
lease_end (Some l) = l.expires_at

unfoldable pub order_end : Option Active → ℕ
order_end None = top
order_end (Some a) = a.expires_at

-- the first axis from one on whose lease or order is over, or 8, and what stands in its slot
pub record ShowsDue (time from axis : ℕ) (lease : LeaseSlot) (t : Tables) : Type 0 where
  pub first : axis ≡ first_due time t.leases t.active from
  pub shown : axis < 8 → lease_in lease ≡ get_or t.leases axis None

-- the numbers with another last tick and state
abbrev pub ticked : ℕ → Mode → Numbers → Numbers
ticked time mode n =
    record {
      next_receipt = n.next_receipt;
      next_lease = n.next_lease;
      epoch = n.epoch;
      state_at = n.state_at;
      last_tick = time;
      flags = n.flags;
      estop_seen = n.estop_seen;
      invalid_count = n.invalid_count;
      mode = mode;
      held = n.held;
      soonest = n.soonest;
    }

-- a quiet tick trips nothing and hands nothing out: what follows it goes on at once, with its time and the state refreshed
abbrev pub Quietly : Fixed → Numbers → ℕ → Type 0
Quietly f n time =
    (t : Tables) (q : Asked) (h : Hand) → Sound (state f n t q h) → (next : Book → Interaction)
    → tick time (book_of f n t) next ≡ next (refresh_state (with_last_tick time (book_of f n t)))

-- .. as it is stored
unfoldable pub OpensAs : Begun → Fixed → Numbers → ℕ → Mode → Type 0
OpensAs Quiet f n time mode =
    (t : Tables) (q : Asked) (h : Hand) → Sound (state f n t q h) → (next : Book → Interaction)
    → tick time (book_of f n t) next ≡ next (book_of f (ticked time mode n) t)
OpensAs Busy f n time mode = Unit {0}

abbrev pub Opens : Fixed → Numbers → ℕ → Opening → Type 0
Opens f n time o = OpensAs o.begun f n time o.mode

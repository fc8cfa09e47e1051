-- What the decisions on flags and stops are shown.
use Rattle.std.specs.Prelude.{ℕ, ◌≡◌}
use Rattle.state.specs.Axes.{first_forbidden}
use Rattle.state.specs.State.{Tables}
use Rattle.state.specs.declared.Numbers.{Numbers}

-- the first axis from one on whose order the flags forbid, or 8
abbrev pub ShowsForbidden : ℕ → ℕ → ℕ → Tables → Type 0
ShowsForbidden flags from axis t = axis ≡ first_forbidden flags t.active from

-- the numbers with another state stamp
abbrev pub stamped : ℕ → Numbers → Numbers
stamped time n =
    record {
      next_receipt = n.next_receipt;
      next_lease = n.next_lease;
      epoch = n.epoch;
      state_at = time;
      last_tick = n.last_tick;
      flags = n.flags;
      estop_seen = n.estop_seen;
      invalid_count = n.invalid_count;
      mode = n.mode;
      held = n.held;
      soonest = n.soonest;
    }

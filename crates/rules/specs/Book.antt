-- The book (01, "Agreement"): what the rules step, for one life. It holds what 01 names, as values.
use Rattle.std.specs.Prelude.{ℕ, List, get_or}
use Rattle.std.specs.Prelude.{Option, None}
use Rattle.model.specs.declared.Config.{Config}
use Rattle.model.specs.declared.Capability.{Capability}
use Rattle.model.specs.declared.Lease.{Lease}
use Rattle.model.specs.declared.Active.{Active}
use Rattle.model.specs.declared.Replay.{Replay}
use Rattle.model.specs.declared.Receipt.{Receipt}
use Rattle.model.specs.declared.RuntimeState.{RuntimeState}

pub record Book : Type 0 where
  pub config : Config
  pub boot_id : ℕ
  pub capabilities : List Capability
  pub leases : List (Option Lease)  -- one for each axis
  pub active : List (Option Active)  -- the order that each axis carries out
  pub replay : List Replay  -- the last 32 admitted, newest first
  pub receipts : List Receipt  -- those kept, oldest first
  pub next_receipt : ℕ
  pub next_lease : ℕ
  pub epoch : ℕ
  pub flags : ℕ
  pub state_at : ℕ  -- the state stamp
  pub last_tick : ℕ
  pub state : RuntimeState
  pub invalid_count : ℕ  -- rejections since the last Executed order or recovery
  pub estop_seen : ℕ  -- the raise number last seen

-- the lease that stands on an axis, and the order that it carries out; none on an axis past the last
abbrev pub lease_at : Book → ℕ → Option Lease
lease_at b axis = get_or b.leases axis None

abbrev pub active_at : Book → ℕ → Option Active
active_at b axis = get_or b.active axis None

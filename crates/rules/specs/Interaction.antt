-- What a call does from here on, for every reply (an interaction tree). Each item carries the book as readings see it while its
-- reply is awaited, and each kind of item has its own kind of reply (01, "A driver call").
use Rattle.std.specs.Prelude.{ℕ, Bool, List, ℤ}
use Rattle.std.specs.Prelude.{Option}
use Rattle.model.specs.declared.Lease.{Lease}
use Rattle.model.specs.declared.Observation.{Observation}
use Rattle.model.specs.declared.Reason.{Reason}
use Rattle.model.specs.declared.Receipt.{Receipt}
use Rattle.rules.specs.Book.{Book}

-- what a call answers
pub data Answer : Type 0 where
  Returned : Answer  -- tick, update_state, emergency_stop
  Polled : Bool → Answer  -- poll_estop: whether the raise was new
  Succeeded : Answer  -- recover_local, cancel
  Leased : Lease → Answer  -- acquire, renew
  Refused : Reason → Answer  -- any of these four
  Submitted : Receipt → Answer  -- submit

pub data Interaction : Type 0 where
  Done : Book → Answer → Interaction
  Observe : ℕ → Book → (Option Observation → Interaction) → Interaction  -- axis; the observation, or none where the driver failed
  Execute : ℕ → List ℤ → Book → (Bool → Interaction) → Interaction  -- capability, parameters; whether the driver succeeded
  Fallback : ℕ → Reason → Book → (Bool → Interaction) → Interaction  -- axis, reason; whether the driver succeeded
  Record : Receipt → Book → Interaction → Interaction  -- receipt; its reply has no content

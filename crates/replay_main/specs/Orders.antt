-- The orders that the program pushes, numbered from 1.
use Rattle.std.specs.Prelude.{ℕ, zero, suc, ◌+◌, ◌≡◌, List, [], ◌∷◌, take}
use Rattle.model.specs.declared.Replay.{Replay}
use Rattle.replay.specs.declared.ReplayRing.{ReplayRing}
use Rattle.replay.specs.Ring.{list_of}
use Rattle.replay.specs.Promises.{Sound}

-- the n-th order
abbrev pub order : ℕ → Replay
order n = record { owner = 7; action_id = n; receipt = 100 + n }

-- the first n orders, the newest first
unfoldable pub orders : ℕ → List Replay
orders zero = []
orders (suc n) = order (suc n) ∷ orders n

-- a ring after the first n orders
pub record Filled (n : ℕ) (ring : ReplayRing) : Type 0 where
  pub list : list_of ring ≡ take 32 (orders n)
  pub sound : Sound ring

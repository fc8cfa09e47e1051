-- What the ring's functions ask and promise.
use Rattle.std.specs.Prelude.{◌<◌, ◌≡◌, [], ◌∷◌, take}
use Rattle.model.specs.declared.Replay.{Replay}
use Rattle.rules.specs.Rules.{replay_capacity}
use Rattle.replay.specs.declared.ReplayRing.{ReplayRing}
use Rattle.replay.specs.Ring.{slots_of, list_of, filled}

-- the cursor is a slot's number, and backwards from it stand the entries, with blanks after them
pub record Sound (ring : ReplayRing) : Type 0 where
  pub within : ring.cursor < replay_capacity
  pub slots : slots_of ring ≡ filled replay_capacity (list_of ring)

pub record Emptied (made : ReplayRing) : Type 0 where
  pub list : list_of made ≡ []
  pub sound : Sound made

-- the entry stands first, and what is past the capacity is gone
pub record Pushed (ring : ReplayRing) (entry : Replay) (made : ReplayRing) : Type 0 where
  pub list : list_of made ≡ take replay_capacity (entry ∷ list_of ring)
  pub sound : Sound made

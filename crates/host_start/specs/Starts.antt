-- What listing and a start leave in the words.
use Rattle.std.specs.Prelude.{ℕ, ◌≤◌, ◌<◌, List, [], ◌∷◌, ◌++◌, ◌≡◌, length, get_or}
use Rattle.model.specs.declared.Capability.{Capability}
use Rattle.rules.specs.Protocol.{Reaction}
use Rattle.state.specs.declared.Answer.{Answer}
use Rattle.decide_start.specs.Starts.{Listing}
use Rattle.runtime.specs.Stages.{Moves}
use Rattle.layout.specs.Fields.{with_capabilities}
use Rattle.layout.specs.Layout.{runtime_in, listing_in, Becomes}

-- one more at the end of what is listed; the runtime is as it was
pub record ListsOne (c : Capability) (w w' : List ℕ) : Type 0 where
  pub first : get_or w' 0 0 ≡ get_or w 0 0
  pub long : length w' ≡ length w
  pub runtime : runtime_in w' ≡ runtime_in w
  pub listed : (l : List Capability) → Listing (listing_in w) l → Listing (listing_in w') (l ++ (c ∷ []))

-- nothing is listed; the runtime is as it was
pub record Unlists (w w' : List ℕ) : Type 0 where
  pub first : get_or w' 0 0 ≡ get_or w 0 0
  pub long : length w' ≡ length w
  pub runtime : runtime_in w' ≡ runtime_in w
  pub listed : Listing (listing_in w') []

-- every word of the runtime is 0
pub record Clears (w w' : List ℕ) : Type 0 where
  pub first : get_or w' 0 0 ≡ get_or w 0 0
  pub long : length w' ≡ length w
  pub listed : listing_in w' ≡ listing_in w
  pub zero : (j : ℕ) → 1 ≤ j → j < 2220 → get_or w' j 0 ≡ 0

-- the records listed are the runtime's
abbrev pub Copies : List ℕ → List ℕ → Type 0
Copies w w' = Becomes w w' (with_capabilities (listing_in w).records (runtime_in w))

-- a runtime as the rules start it, and nothing listed
pub record Makes (w w' : List ℕ) (answer : Answer) (x : Reaction) : Type 0 where
  pub first : get_or w' 0 0 ≡ get_or w 0 0
  pub long : length w' ≡ length w
  pub moves : Moves (runtime_in w') answer x
  pub listed : Listing (listing_in w') []

-- What the functions over lent words promise: whatever the words hold, as many and the same first one; and given what is said of the runtime that
-- they are, where the rules say.
use Rattle.std.specs.Prelude.{ℕ, true, List, ◌≡◌}
use Rattle.rules.specs.Protocol.{Reaction}
use Rattle.state.specs.declared.Answer.{Answer}
use Rattle.runtime.specs.Promises.{MovesIn, turns_away}
use Rattle.layout.specs.Layout.{runtime_in, Same}

pub record Goes (w w' : List ℕ) (answer : Answer) (given : Type 0) (x : Reaction) : Type 0 where
  pub same : Same w w'
  pub moves : given → MovesIn (runtime_in w') answer x

-- 01: what is turned away leaves the "whole state", here every word
pub record Turns (w w' : List ℕ) (answer : Answer) (given : Type 0) (x : Reaction) : Type 0 where
  pub goes : Goes w w' answer given x
  pub unaltered : given → turns_away answer ≡ true → w' ≡ w

-- What the calls and replies over lent words promise of a sound runtime, its start included.
use Rattle.std.specs.Prelude.{ℕ, true, List, ◌≡◌}
use Rattle.rules.specs.Protocol.{Input, Reaction, react}
use Rattle.state.specs.declared.Answer.{Answer}
use Rattle.runtime.specs.Promises.{turns_away}
use Rattle.runtime.specs.Stages.{phase_in, RuntimeSound, Moves}
use Rattle.layout.specs.Layout.{runtime_in, Same}

-- a call or a reply: where the rules say; what is turned away leaves every word
pub record Steps (w w' : List ℕ) (answer : Answer) (i : Input) : Type 0 where
  pub same : Same w w'
  pub moves : RuntimeSound (runtime_in w) → Moves (runtime_in w') answer (react (phase_in (runtime_in w)) i)
  pub unaltered : RuntimeSound (runtime_in w) → turns_away answer ≡ true → w' ≡ w

-- a part of a start
pub record Tried (w w' : List ℕ) (answer : Answer) (given : Type 0) (x : Reaction) : Type 0 where
  pub same : Same w w'
  pub moves : given → Moves (runtime_in w') answer x

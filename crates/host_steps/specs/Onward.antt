-- What is to come after an opening tick or a fallback: an answer, or what the call in hand does after its tick.
use Rattle.std.specs.Prelude.{ℕ, List, ◌≡◌}
use Rattle.rules.specs.Protocol.{Reaction, proceed}
use Rattle.state.specs.State.{after_tick}
use Rattle.state.specs.declared.Answer.{Answer}
use Rattle.runtime.specs.declared.Runtime.{Runtime}
use Rattle.runtime.specs.Promises.{Good, MovesIn}
use Rattle.runtime.specs.Runtimes.{asked_in, book_on}
use Rattle.layout.specs.Layout.{runtime_in, Same}
use Rattle.host_steps.specs.declared.Onward.{Onward}

-- what the rules say, if that is what comes: the runtime stands there, or its call goes there
unfoldable pub Comes : Onward → Runtime → Reaction → Type 0
Comes (Onward.Answers a) h x = MovesIn h a x
Comes Onward.GoesOn h x = Good h × (proceed (after_tick (asked_in h) (book_on h)) ≡ x)

pub record ComesTo (w w' : List ℕ) (n : Onward) (given : Type 0) (x : Reaction) : Type 0 where
  pub same : Same w w'
  pub comes : given → Comes n (runtime_in w') x

-- .. and it is done
pub record Concludes (w w' : List ℕ) (n : Onward) (r : Answer) : Type 0 where
  pub same : Same w w'
  pub moves : (x : Reaction) → Comes n (runtime_in w) x → MovesIn (runtime_in w') r x

-- Runs of some code, whatever a step of it is, and demand 3 of lives made of them (00). Which steps the code takes is specs/Lent.
use Rattle.std.specs.Prelude.{List, [], ◌∷◌, ◌++◌, map, reverse, ◌≡◌}
use Rattle.model.specs.declared.Action.{Action}
use Rattle.rules.specs.Protocol.{Input, Output, Phase}
use Rattle.rules.specs.Lives as Lives
use Rattle.rules.specs.Lives.{Life}
use Rattle.rules.specs.Log.{Log, handed, logged, log_of, executed}
use Rattle.rules.specs.Lists.{Distinct}
use Rattle.rules.specs.Demands.{Demands}

-- steps in order, each from where the one before left the code (00: "each on the state the one before left")
pub data Run {S : Type 0} (Takes : S → Input → Output → S → Type 0) : S → List Input → List Output → S → Type 0 where
  here : {s : S} → Run Takes s [] [] s
  then : {s t u : S} {i : Input} {out : Output} {is : List Input} {outs : List Output}
      → Takes s i out t → Run Takes t is outs u → Run Takes s (i ∷ is) (out ∷ outs) u

-- its log, from inputs and outputs alone ------------------------------------------------------------------------------

unfoldable pub log_after : Log → List Input → List Output → Log
log_after l [] outs = l
log_after l (i ∷ is) [] = l
log_after l (i ∷ is) (out ∷ outs) = log_after (logged i out l) is outs

-- the first output is that of the start
unfoldable pub log_from : List Input → List Output → Log
log_from is [] = []
log_from is (first ∷ outs) = log_after (handed first) is outs

-- demand 3 -------------------------------------------------------------------------------------------------------------

-- Of lives of some code, by the life in the rules that each of them is, by all that came out of it, and by the phase that it ended in.
module _ {C : Type 0} (life_in : C → Life) (outputs_in : C → List Output) (end_in : C → Phase) where
  abbrev pub log_in : C → Log
  log_in c = log_from (life_in c).inputs (outputs_in c)

  -- the orders that reached execute, over a list of lives
  unfoldable pub executed_in : List C → List Action
  executed_in [] = []
  executed_in (c ∷ cs) = map (λ s. s.action) (executed (log_in c)) ++ executed_in cs

  pub record ClaimOf (cs : List C) : Type 0 where
    -- of every life of the code, also outside the list: what comes out is what the rules say, and where it ends is where they end
    pub same : (c : C) → outputs_in c ≡ Lives.outputs (life_in c)
    pub stands : (c : C) → end_in c ≡ Lives.end_of (life_in c)
    -- so its own log, by inputs and outputs alone, is the one that the claim speaks of
    pub log : (c : C) → log_in c ≡ log_of (life_in c).start (reverse (life_in c).inputs)
    -- "one order, all eleven fields alike, reaches `execute` at most once in all of them", by the code's own outputs
    pub once : Distinct (executed_in cs)
    -- and all that is claimed, of these lives as the rules have them
    pub demands : Demands (map life_in cs)

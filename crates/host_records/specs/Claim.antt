-- Demand 3 of records (00), and of a host that steps by them: the lives that records are, and what is answered to them.
use Rattle.std.specs.Prelude.{ℕ, Bool, true, false, not, List, [], ◌∷◌, ◌++◌, map, ◌≡◌}
use Rattle.model.specs.declared.Capability.{Capability}
use Rattle.rules.specs.Log.{took_effect}
use Rattle.rules.specs.Protocol.{Input, Output, Start, Gone, start, react}
use Rattle.rules.specs.Lives.{Life, outputs, outputs_from}
use Rattle.rules.specs.Demands.{Demands}
use Rattle.rules.specs.Lists.{Distinct}
use Rattle.format.specs.Decode.{Record, Lists, Starts, Feeds, Malformed}
use Rattle.layout.specs.Layout.{runtime_in}
use Rattle.runtime.specs.Stages.{RuntimeSound}
use Rattle.host_records.specs.Records.{Standing, opening, Answer, Listed, Tells, Unread, step, answers_from, standing_after, answer_words}
use Rattle.host_records.specs.Standings.{Stands, Goes}

-- the calls, replies and readings up to the next start
unfoldable pub inputs_of : List Record → List Input
inputs_of [] = []
inputs_of (Lists c ∷ rs) = inputs_of rs
inputs_of (Starts config boot_id now flags ∷ rs) = []
inputs_of (Feeds i ∷ rs) = i ∷ inputs_of rs
inputs_of (Malformed ∷ rs) = inputs_of rs

-- the lives that records begin: each start with the capabilities listed since the one before, and its inputs
unfoldable pub lives_from : List Capability → List Record → List Life
lives_from listed [] = []
lives_from listed (Lists c ∷ rs) = lives_from (listed ++ (c ∷ [])) rs
lives_from listed (Starts config boot_id now flags ∷ rs) =
    record {
      start = record { config = config; capabilities = listed; boot_id = boot_id; now = now; flags = flags };
      inputs = inputs_of rs;
    }
    ∷ lives_from [] rs
lives_from listed (Feeds i ∷ rs) = lives_from listed rs
lives_from listed (Malformed ∷ rs) = lives_from listed rs

abbrev pub lives_in : List Record → List Life
lives_in rs = lives_from [] rs

-- what the answers tell of the runtime
unfoldable pub outputs_in : List Answer → List Output
outputs_in [] = []
outputs_in (Listed ∷ rest) = outputs_in rest
outputs_in (Tells out ∷ rest) = out ∷ outputs_in rest
outputs_in (Unread ∷ rest) = outputs_in rest

unfoldable pub joined : List (List Output) → List Output
joined [] = []
joined (l ∷ ls) = l ++ joined ls

pub record RecordsClaim (rs : List Record) : Type 0 where
  -- what is answered are the outputs of the lives, after those of the inputs before the first start, where there is no runtime
  pub same : outputs_in (answers_from opening rs) ≡ outputs_from Gone (inputs_of rs) ++ joined (map outputs (lives_in rs))
  -- and all that is claimed holds of these lives, if no two have the same boot number
  pub demands : Distinct (map (λ l. l.start.boot_id) (lives_in rs)) → Demands (lives_in rs)

-- after a start, whose own output is not among the answers
abbrev pub begun_by : Start → Standing
begun_by x = record { listed = []; phase = (start x).phase }

abbrev pub lives_after : Start → List Record → List Life
lives_after x rs = record { start = x; inputs = inputs_of rs } ∷ lives_from [] rs

pub record StartedClaim (x : Start) (rs : List Record) : Type 0 where
  pub same : ((start x).output ∷ outputs_in (answers_from (begun_by x) rs)) ≡ joined (map outputs (lives_after x rs))
  pub demands : Distinct (map (λ l. l.start.boot_id) (lives_after x rs)) → Demands (lives_after x rs)

-- a host that steps --------------------------------------------------------------------------------------------------------

-- records in order, each on the words that the one before left, with the words of their answers
pub data Stepping : List ℕ → List Record → List (List ℕ) → List ℕ → Type 0 where
  here : {w : List ℕ} → Stepping w [] [] w
  then : {w w' last words : List ℕ} {r : Record} {rs : List Record} {outs : List (List ℕ)}
      → Goes w w' words r → Stepping w' rs outs last → Stepping w (r ∷ rs) (words ∷ outs) last

-- 01: "whole state". Each record that was malformed, a reading, or turned away left every word as it was.
abbrev pub leaves : Standing → Record → Bool
leaves s (Lists c) = false
leaves s (Starts config boot_id now flags) = false
leaves s (Feeds i) = not (took_effect (react s.phase i).output)
leaves s Malformed = true

unfoldable pub Whole : Standing → {w last : List ℕ} {rs : List Record} {outs : List (List ℕ)} → Stepping w rs outs last → Type 0
Whole s here = Unit
Whole s (then {w = w} {w' = w'} {r = r} one more) = (leaves s r ≡ true → w' ≡ w) × Whole (step s r).standing more

-- where it began sound, it is told the answers and stands where they leave it, and is sound
pub record SteppedTo (s : Standing) (rs : List Record) (outs : List (List ℕ)) (last : List ℕ) : Type 0 where
  pub told : outs ≡ map answer_words (answers_from s rs)
  pub stands : Stands last (standing_after s rs)
  pub sound : RuntimeSound (runtime_in last)

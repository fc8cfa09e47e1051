-- Lives of a host that steps by the functions of this crate, by their promises alone, and demand 3 of them (00). As in `lives`, a step takes a promise as it
-- stands, and that its words are lent as they have to be, and sound, is proved along the run.
use Rattle.std.specs.Prelude.{ℕ, ◌≤◌, true, false, List, [], ◌∷◌, ◌≡◌, length}
use Rattle.rules.specs.Protocol.{Call, Reply, Reading, Input, Calls, Replies, Reads, Output}
use Rattle.rules.specs.Lives.{Life}
use Rattle.rules.specs.Log.{took_effect}
use Rattle.state.specs.declared.Answer.{Answer}
use Rattle.cells.specs.Cells.{part}
use Rattle.format.specs.Decode.{Record, Feeds, decode}
use Rattle.runtime.specs.Stages.{phase_in}
use Rattle.layout.specs.Layout.{size, runtime_in}
use Rattle.lives.specs.Runs.{Run, here, then, ClaimOf}
use Rattle.lives.specs.Lent.{LentShown, output_in}
use Rattle.host.specs.Host.{number_of, are_asked, start_in, Asks, Begins, Records}

-- one call, reply or reading: what comes out, by the number answered and the words that hold what it speaks of, and the words afterwards
pub data HostStep : List ℕ → Input → Output → List ℕ → Type 0 where
  called : {w w' : List ℕ} {c : Call} {r : ℕ} (answer : Answer) → r ≡ number_of answer → Asks w w' r (Feeds (Calls c))
      → HostStep w (Calls c) (output_in answer (runtime_in w')) w'
  replied : {w w' : List ℕ} {y : Reply} {r : ℕ} (answer : Answer) → r ≡ number_of answer → Asks w w' r (Feeds (Replies y))
      → HostStep w (Replies y) (output_in answer (runtime_in w')) w'
  shown : {w : List ℕ} {q : Reading} {out : Output} → LentShown (runtime_in w) q out → HostStep w (Reads q) out w

-- one start, whatever the words were, and a run; a life that is cut is one whose run ends while a reply is awaited
pub record HostLife : Type 0 where
  -- the slices of `rolthai_new`, and what it was lent
  pub start : List ℕ
  pub capabilities : List ℕ
  pub asked : are_asked start capabilities ≡ true
  pub lent : List ℕ
  pub whole : length lent ≡ size
  -- what it left and answered
  pub first : List ℕ
  pub number : ℕ
  pub promised : Begins lent first number start capabilities
  pub answer : Answer
  pub is : number ≡ number_of answer
  pub inputs : List Input
  pub later : List Output
  pub last : List ℕ
  pub run : Run HostStep first inputs later last

-- all that came out: the start's own output, then one for each input
unfoldable pub outputs_of : HostLife → List Output
outputs_of c = output_in c.answer (runtime_in c.first) ∷ c.later

-- the life in the rules: the same arguments, the same inputs
unfoldable pub life_of : HostLife → Life
life_of c = record { start = start_in c.start c.capabilities; inputs = c.inputs }

abbrev pub HostClaim : List HostLife → Type 0
HostClaim cs = ClaimOf life_of outputs_of (λ c. phase_in (runtime_in c.last)) cs

-- 01: "whole state". Each step of a run that took no effect left every word as it was.
unfoldable pub Whole : {w last : List ℕ} {is : List Input} {outs : List Output} → Run HostStep w is outs last → Type 0
Whole here = Unit
Whole (then {s = w} {t = next} {out = out} one more) = (took_effect out ≡ false → next ≡ w) × Whole more

-- a host that steps by records -------------------------------------------------------------------------------------------

-- records in order, in slices of 16 words and with room for their answers, each on the words that the one before left
pub data RecordSteps : List ℕ → List Record → List (List ℕ) → List ℕ → Type 0 where
  none : {w : List ℕ} → RecordSteps w [] [] w
  one_more : {w w' last f out out' : List ℕ} {r : ℕ} {rs : List Record} {outs : List (List ℕ)} → Records w w' f out out' r → length f ≡ 16 → 26 ≤ length out
      → RecordSteps w' rs outs last → RecordSteps w (decode (part f 0 16) ∷ rs) (part out' 0 26 ∷ outs) last

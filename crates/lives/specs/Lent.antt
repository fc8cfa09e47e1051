-- Lives over the runtime where it stands, by the promises of its public functions alone (crate runtime), and demand 3 of them (00). A step takes a
-- promise as it stands, with its condition: that the condition holds is assumed of no step, and is proved along the run.
use Rattle.std.specs.Prelude.{false, List, ◌∷◌, ◌≡◌}
use Rattle.rules.specs.Protocol.{Call, Reply, Reading, Input, Calls, Replies, Reads, Output, Start, start as start_rule, react, book_in, shown as shown_rule}
use Rattle.rules.specs.Lives.{Life}
use Rattle.rules.specs.Log.{Log, took_effect}
use Rattle.state.specs.declared.Answer.{Answer}
use Rattle.state.specs.State.{output_of}
use Rattle.runtime.specs.declared.Runtime.{Runtime}
use Rattle.runtime.specs.Runtimes.{state_in}
use Rattle.runtime.specs.Stages.{phase_in, RuntimeSound, Moves, Turns}
use Rattle.lives.specs.Runs.{Run, here, then, log_in, ClaimOf}

-- a step ---------------------------------------------------------------------------------------------------------------

-- what the function of a call or a reply promises of the runtime that it leaves, and of its answer
abbrev pub LentPromised : Runtime → Input → Runtime → Answer → Type 0
LentPromised rt i next answer = RuntimeSound rt → Turns rt next answer (react (phase_in rt) i)

-- what the function of a reading promises of what it shows, in the rules' words; it leaves the runtime
abbrev pub LentShown : Runtime → Reading → Output → Type 0
LentShown rt q out = RuntimeSound rt → out ≡ shown_rule q (book_in (phase_in rt))

-- 01's output, by the answer and the runtime that holds what it speaks of
abbrev pub output_in : Answer → Runtime → Output
output_in answer rt = output_of answer (state_in rt)

-- one input, at any stage of the start: what comes out, and the runtime afterwards
pub data LentStep : Runtime → Input → Output → Runtime → Type 0 where
  called : {rt next : Runtime} {c : Call} (answer : Answer) → LentPromised rt (Calls c) next answer → LentStep rt (Calls c) (output_in answer next) next
  replied : {rt next : Runtime} {r : Reply} (answer : Answer) → LentPromised rt (Replies r) next answer → LentStep rt (Replies r) (output_in answer next) next
  shown : {rt : Runtime} {q : Reading} {out : Output} → LentShown rt q out → LentStep rt (Reads q) out rt

-- a life ---------------------------------------------------------------------------------------------------------------

-- one start and a run; a life that is cut is one whose run ends while a reply is awaited, and nothing of where it stood goes into the next life
pub record LentLife : Type 0 where
  pub start : Start
  -- what `new` made and answered
  pub first : Runtime
  pub answer : Answer
  pub promised : Moves first answer (start_rule start)
  pub inputs : List Input
  pub later : List Output
  pub last : Runtime
  pub run : Run LentStep first inputs later last

-- all that came out: the start's own output, then one for each input
unfoldable pub outputs_of : LentLife → List Output
outputs_of c = output_in c.answer c.first ∷ c.later

-- the life in the rules: the same arguments, the same inputs
unfoldable pub life_of : LentLife → Life
life_of c = record { start = c.start; inputs = c.inputs }

-- its log, from its inputs and outputs alone
abbrev pub lent_log : LentLife → Log
lent_log c = log_in life_of outputs_of (λ c. phase_in c.last) c

-- demand 3 -------------------------------------------------------------------------------------------------------------

abbrev pub LentClaim : List LentLife → Type 0
LentClaim cs = ClaimOf life_of outputs_of (λ c. phase_in c.last) cs

-- what is turned away ----------------------------------------------------------------------------------------------------

-- 01: "whole state". Each step of a run that took no effect left all of the runtime as it was, not only what the rules know of it.
unfoldable pub Whole : {rt last : Runtime} {is : List Input} {outs : List Output} → Run LentStep rt is outs last → Type 0
Whole here = Unit
Whole (then {s = rt} {t = next} {out = out} one more) = (took_effect out ≡ false → next ≡ rt) × Whole more

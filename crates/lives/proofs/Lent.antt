-- Each step over the runtime where it stands is the rules' reaction and leaves what the next promise asks for; so its lives are the rules', and demand 3
-- holds of every list of them whose boot numbers differ. Assumes nothing.
use Prim.Native.Nat.{ℕ}
use mathlib.Core.Bool.{true, false, false≢true}
use mathlib.Core.List.{List, [], ◌∷◌, map, reverse}
use mathlib.Core.Path.{◌≡◌, refl, sym, ap, ap₂, ◌∙◌}
use Rattle.rules.specs.Protocol.{Call, Reply, Input, Calls, Replies, Reading, Reads, ReadState, ReadConfig, ReadSnapshot, ReadLease, ReadCapability, ReadReceipt, Output, Start, Phase, Reaction, start as start_rule, react, apply, effect, book_in, shown as shown_rule, awaited_in}
use Rattle.rules.specs.Lives.{outputs_from, phase_from, outputs, end_of}
use Rattle.rules.specs.Lists.{Distinct}
use Rattle.rules.specs.Log.{phase_after, took_effect}
use Rattle.rules.specs.Turns.{awaited}
use Rattle.rules.proofs.Forward.{phase-forward}
use Rattle.rules.proofs.Turns.{stands}
use Rattle.state.specs.declared.Answer.{Answer}
use Rattle.state.specs.declared.Answer.TheVariants as Answer
use Rattle.state.specs.State.{State, output_of}
use Rattle.decide_read.specs.Shown.{number_says, state_says, config_says, snapshot_says, lease_says, capability_says, receipt_says}
use Rattle.decide_read.specs.declared.CapabilityShown.{CapabilityShown}
use Rattle.decide_read.specs.declared.ConfigShown.{ConfigShown}
use Rattle.decide_read.specs.declared.LeaseShown.{LeaseShown}
use Rattle.decide_read.specs.declared.NumberShown.{NumberShown}
use Rattle.decide_read.specs.declared.ReceiptShown.{ReceiptShown}
use Rattle.decide_read.specs.declared.SnapshotShown.{SnapshotShown}
use Rattle.decide_read.specs.declared.StateShown.{StateShown}
use Rattle.runtime.specs.declared.Runtime.{Runtime}
use Rattle.runtime.specs.Promises.{turns_away}
use Rattle.runtime.specs.Runtimes.{state_in}
use Rattle.runtime.specs.Stages.{phase_in, RuntimeSound, Moves, Turns, StateReads, NumberReads, ConfigReads, SnapshotReads, LeaseReads, CapabilityReads, ReceiptReads}
use Rattle.lives.specs.Runs.{Run, here, then}
use Rattle.lives.specs.Lent.{output_in, LentStep, called, replied, shown, LentLife, outputs_of, life_of, lent_log, LentClaim, Whole}
use Rattle.lives.proofs.Follows.{Meets, follows}
use Rattle.lives.proofs.Theorem.{same_log, claim-of}

-- a step ---------------------------------------------------------------------------------------------------------------

moves : {rt : Runtime} {answer : Answer} {x : Reaction} → Moves rt answer x → Meets phase_in RuntimeSound x (output_in answer rt) rt
moves m = record { output = m.output; phase = m.phase; fit = m.sound }

-- a reading leaves the phase, whatever it is
pub reads : (p : Phase) (q : Reading) → react p (Reads q) ≡ record { output = shown_rule q (book_in p); phase = p }
unfolding react apply effect
reads p q = refl

pub step : {rt next : Runtime} {i : Input} {out : Output} → RuntimeSound rt → LentStep rt i out next → Meets phase_in RuntimeSound (react (phase_in rt) i) out next
step h (called answer p) = moves (p h).moves
step h (replied answer p) = moves (p h).moves
step h (shown {rt = rt} {q = q} e) =
    let r = reads (phase_in rt) q in
    record { output = e h ∙ sym (ap (λ (x : Reaction). x.output) r); phase = sym (ap (λ (x : Reaction). x.phase) r); fit = h }

-- lives ----------------------------------------------------------------------------------------------------------------

faithful : (c : LentLife) → outputs_of c ≡ outputs (life_of c)
unfolding outputs_of outputs life_of
faithful c =
    let m = c.promised in
    ap₂ (λ x y. x ∷ y) m.output ((follows phase_in RuntimeSound (λ s t i out. step) m.sound c.run).outputs ∙ ap (λ p. outputs_from p c.inputs) m.phase)

same_end : (c : LentLife) → phase_in c.last ≡ end_of (life_of c)
unfolding end_of life_of
same_end c = let m = c.promised in (follows phase_in RuntimeSound (λ s t i out. step) m.sound c.run).phase ∙ ap (λ p. phase_from p c.inputs) m.phase

pub demand-3-over-a-lent-runtime : (cs : List LentLife) → Distinct (map (λ c. (life_of c).start.boot_id) cs) → LentClaim cs
demand-3-over-a-lent-runtime = claim-of life_of _ _ faithful same_end

-- what is turned away ----------------------------------------------------------------------------------------------------

-- an answer that says of no effect is one that turns away
pub away : (a : Answer) (s : State) → took_effect (output_of a s) ≡ false → turns_away a ≡ true
unfolding output_of took_effect
away Answer.Returned s e = absurd (false≢true (sym e))
away Answer.Unraised s e = absurd (false≢true (sym e))
away Answer.Raised s e = absurd (false≢true (sym e))
away Answer.Succeeded s e = absurd (false≢true (sym e))
away Answer.Leased s e = absurd (false≢true (sym e))
away Answer.Refused s e = absurd (false≢true (sym e))
away Answer.Submitted s e = absurd (false≢true (sym e))
away Answer.Item s e = absurd (false≢true (sym e))
away Answer.ReplyAwaited s e = refl
away Answer.OtherAwaited s e = refl
away Answer.NoReplyAwaited s e = refl
away Answer.NoRuntime s e = refl
away Answer.Started s e = absurd (false≢true (sym e))
away Answer.InvalidBootId s e = absurd (false≢true (sym e))
away Answer.InvalidConfig s e = absurd (false≢true (sym e))
away Answer.InvalidCapability s e = absurd (false≢true (sym e))
away Answer.DuplicateCapability s e = absurd (false≢true (sym e))
away Answer.StartupFailed s e = absurd (false≢true (sym e))

unaltered : {rt next : Runtime} {i : Input} {out : Output} → RuntimeSound rt → LentStep rt i out next → took_effect out ≡ false → next ≡ rt
unaltered h (called {next = next} answer p) e = (p h).unaltered (away answer (state_in next) e)
unaltered h (replied {next = next} answer p) e = (p h).unaltered (away answer (state_in next) e)
unaltered h (shown s) e = refl

whole_from : {rt last : Runtime} {is : List Input} {outs : List Output} → RuntimeSound rt → (run : Run LentStep rt is outs last) → Whole run
unfolding Whole
whole_from h here = tt
whole_from h (then one more) = (unaltered h one, whole_from (step h one).fit more)

-- of every life: a call or a reply that is turned away finds the runtime, and leaves it, as it was
pub turned-away-leaves-the-whole-runtime : (c : LentLife) → Whole c.run
turned-away-leaves-the-whole-runtime c = whole_from c.promised.sound c.run

-- what the functions of a life ask and show ------------------------------------------------------------------------------

sound-from : {rt last : Runtime} {is : List Input} {outs : List Output} → RuntimeSound rt → Run LentStep rt is outs last → RuntimeSound last
sound-from h here = h
sound-from h (then one more) = sound-from (step h one).fit more

-- whatever came before, the one condition of the public functions holds
pub sound-at-the-end : (c : LentLife) → RuntimeSound c.last
sound-at-the-end c = sound-from c.promised.sound c.run

pub end-by-the-history : (c : LentLife) → phase_in c.last ≡ phase_after c.start (reverse c.inputs)
unfolding life_of end_of
end-by-the-history c = same_end c ∙ sym (phase-forward c.start c.inputs)

-- the item whose reply is awaited, by the log (Told: the function `item` shows it)
pub item-by-the-log : (c : LentLife) → awaited_in (phase_in c.last) ≡ awaited (lent_log c)
unfolding life_of
item-by-the-log c =
    ap awaited_in (end-by-the-history c)
    ∙ (sym (stands c.start (reverse c.inputs)) ∙ ap awaited (sym (same_log life_of outputs_of (λ c. phase_in c.last) faithful same_end c)))

-- what the functions promise makes a life and its steps: nothing more is asked of them (Link: they do promise it) ----------

pub life-made : (s : Start) (rt : Runtime) (answer : Answer) → Moves rt answer (start_rule s) → LentLife
life-made s rt answer p = record { start = s; first = rt; answer = answer; promised = p; inputs = []; later = []; last = rt; run = here }

pub call-made : {rt next : Runtime} (c : Call) (answer : Answer) → (RuntimeSound rt → Turns rt next answer (react (phase_in rt) (Calls c)))
    → LentStep rt (Calls c) (output_of answer (state_in next)) next
call-made c answer p = called answer p

pub reply-made : {rt next : Runtime} (r : Reply) (answer : Answer) → (RuntimeSound rt → Turns rt next answer (react (phase_in rt) (Replies r)))
    → LentStep rt (Replies r) (output_of answer (state_in next)) next
reply-made r answer p = replied answer p

pub state-read : {rt : Runtime} {r : StateShown} → (RuntimeSound rt → StateReads rt r) → LentStep rt (Reads ReadState) (state_says r) rt
state-read p = shown (λ h. (p h).shows)

pub number_read : {rt : Runtime} {q : Reading} {r : NumberShown} → (RuntimeSound rt → NumberReads q rt r) → LentStep rt (Reads q) (number_says r) rt
number_read p = shown (λ h. (p h).shows)

pub config-read : {rt : Runtime} {r : ConfigShown} → (RuntimeSound rt → ConfigReads rt r) → LentStep rt (Reads ReadConfig) (config_says r) rt
config-read p = shown (λ h. (p h).shows)

pub snapshot-read : {rt : Runtime} {r : SnapshotShown} → (RuntimeSound rt → SnapshotReads rt r) → LentStep rt (Reads ReadSnapshot) (snapshot_says r) rt
snapshot-read p = shown (λ h. (p h).shows)

pub lease-read : {rt : Runtime} {axis : ℕ} {r : LeaseShown} → (RuntimeSound rt → LeaseReads axis rt r) → LentStep rt (Reads (ReadLease axis)) (lease_says r) rt
lease-read p = shown (λ h. (p h).shows)

pub capability-read : {rt : Runtime} {index : ℕ} {r : CapabilityShown} → (RuntimeSound rt → CapabilityReads index rt r)
    → LentStep rt (Reads (ReadCapability index)) (capability_says r) rt
capability-read p = shown (λ h. (p h).shows)

pub receipt-read : {rt : Runtime} {index : ℕ} {r : ReceiptShown} → (RuntimeSound rt → ReceiptReads index rt r)
    → LentStep rt (Reads (ReadReceipt index)) (receipt_says r) rt
receipt-read p = shown (λ h. (p h).shows)

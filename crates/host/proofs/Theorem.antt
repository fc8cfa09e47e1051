-- Each step of a host is the rules' reaction and leaves words that are lent as they have to be, and sound; so its lives are the rules', and demand 3 holds of every
-- list of them whose boot numbers differ. Assumes nothing.
use Prim.Native.Nat.{ℕ}
use mathlib.Core.Bool.{false, cond}
use mathlib.Core.List.{List, [], ◌∷◌, map}
use mathlib.Core.Path.{◌≡◌, refl, sym, ap, ap₂, ◌∙◌, subst}
use lib.Dec.{eqb}
use lib.ListN.{length, get_or}
use Rattle.rules.specs.Protocol.{Input, Output, Phase, react, start as start_rule}
use Rattle.rules.specs.Lives.{outputs_from, phase_from, outputs, end_of}
use Rattle.rules.specs.Lists.{Distinct}
use Rattle.rules.specs.Log.{took_effect}
use Rattle.state.specs.declared.Answer.{Answer}
use Rattle.state.specs.declared.Answer.TheVariants as Answer
use Rattle.cells.specs.Cells.{part}
use Rattle.cells.proofs.Regions.{part-here}
use Rattle.format.specs.Decode.{Record, Feeds, decode}
use Rattle.runtime.specs.Runtimes.{state_in}
use Rattle.runtime.specs.Stages.{phase_in, RuntimeSound, Moves}
use Rattle.layout.specs.Layout.{runtime_in}
use Rattle.host_calls.specs.Calls.{Steps}
use Rattle.lives.specs.Runs.{Run, here, then}
use Rattle.lives.specs.Lent.{output_in}
use Rattle.lives.proofs.Follows.{Meets, follows}
use Rattle.lives.proofs.Lent.{reads, away}
use Rattle.lives.proofs.Theorem.{claim-of}
use Rattle.host_records.specs.Records.{opening}
use Rattle.host_records.specs.Standings.{Goes}
use Rattle.host_records.specs.Claim.{begun_by, Stepping, SteppedTo, here as stepped, then as and-on}
use Rattle.host_records.proofs.Theorem.{stepped-to}
use Rattle.host.specs.Host.{fault_of, number_of, start_in, Served, Asks, Made, Wipes}
use Rattle.host.specs.Claim.{HostStep, called, replied, shown, HostLife, outputs_of, life_of, HostClaim, Whole, RecordSteps, none, one_more}
use Rattle.host.proofs.Lent.{fault-none, whole_of, first_of, lack-none, at_none}

-- the number of an answer says which it is ----------------------------------------------------------------------------------

answers : List Answer
answers =
    Answer.Returned
    ∷ Answer.Unraised
    ∷ Answer.Raised
    ∷ Answer.Succeeded
    ∷ Answer.Leased
    ∷ Answer.Refused
    ∷ Answer.Submitted
    ∷ Answer.Item
    ∷ Answer.ReplyAwaited
    ∷ Answer.OtherAwaited
    ∷ Answer.NoReplyAwaited
    ∷ Answer.NoRuntime
    ∷ Answer.Started
    ∷ Answer.InvalidBootId
    ∷ Answer.InvalidConfig
    ∷ Answer.InvalidCapability
    ∷ Answer.DuplicateCapability
    ∷ Answer.StartupFailed
    ∷ []

numbered : List Answer → ℕ → Answer
numbered [] n = Answer.Returned
numbered (a ∷ l) n = cond (eqb (number_of a) n) a (numbered l n)

number-back : (a : Answer) → numbered answers (number_of a) ≡ a
unfolding number_of numbered answers
number-back Answer.Returned = refl
number-back Answer.Unraised = refl
number-back Answer.Raised = refl
number-back Answer.Succeeded = refl
number-back Answer.Leased = refl
number-back Answer.Refused = refl
number-back Answer.Submitted = refl
number-back Answer.Item = refl
number-back Answer.ReplyAwaited = refl
number-back Answer.OtherAwaited = refl
number-back Answer.NoReplyAwaited = refl
number-back Answer.NoRuntime = refl
number-back Answer.Started = refl
number-back Answer.InvalidBootId = refl
number-back Answer.InvalidConfig = refl
number-back Answer.InvalidCapability = refl
number-back Answer.DuplicateCapability = refl
number-back Answer.StartupFailed = refl

pub same_answer : (a b : Answer) → number_of a ≡ number_of b → a ≡ b
same_answer a b e = sym (number-back a) ∙ (ap (numbered answers) e ∙ number-back b)

-- a step ---------------------------------------------------------------------------------------------------------------------

abbrev phase_at : List ℕ → Phase
phase_at w = phase_in (runtime_in w)

-- lent as they have to be, and a sound runtime's
pub record Fit (w : List ℕ) : Type 0 where
  pub lent : fault_of w ≡ 0
  pub sound : RuntimeSound (runtime_in w)

still-lent : (w w' : List ℕ) → get_or w' 0 0 ≡ get_or w 0 0 → length w' ≡ length w → fault_of w ≡ 0 → fault_of w' ≡ 0
still-lent w w' f l e = sym (fault-none w' (l ∙ whole_of w e) (f ∙ first_of w e))

module _ {w w' : List ℕ} {r : ℕ} {i : Input} (answer : Answer) (h : Fit w) (n : r ≡ number_of answer) (p : Asks w w' r (Feeds i)) where
  served : Served w w' r i
  served = p.served h.lent i refl

  steps : Steps w w' answer i
  steps = subst (λ (a : Answer). Steps w w' a i) (same_answer served.answer answer (sym served.number ∙ n)) served.steps

  meets : Meets phase_at Fit (react (phase_at w) i) (output_in answer (runtime_in w')) w'
  meets =
      let m = steps.moves h.sound in
      let s = steps.same in
      record { output = m.output; phase = m.phase; fit = record { lent = still-lent w w' s.first s.long h.lent; sound = m.sound } }

  leaves : took_effect (output_in answer (runtime_in w')) ≡ false → w' ≡ w
  leaves e = steps.unaltered h.sound (away answer (state_in (runtime_in w')) e)

step : (w w' : List ℕ) (i : Input) (out : Output) → Fit w → HostStep w i out w' → Meets phase_at Fit (react (phase_at w) i) out w'
step w w' i out h (called answer n p) = meets answer h n p
step w w' i out h (replied answer n p) = meets answer h n p
step w w' i out h (shown {q = q} e) =
    let r = reads (phase_at w) q in
    record { output = e h.sound ∙ sym (ap (λ x. x.output) r); phase = sym (ap (λ x. x.phase) r); fit = h }

-- lives ----------------------------------------------------------------------------------------------------------------------

made : (c : HostLife) → Made c.lent c.first c.number (start_rule (start_in c.start c.capabilities))
made c = c.promised.made c.whole c.asked

begun : (c : HostLife) → Moves (runtime_in c.first) c.answer (start_rule (start_in c.start c.capabilities))
begun c =
    subst (λ (a : Answer). Moves (runtime_in c.first) a (start_rule (start_in c.start c.capabilities))) (same_answer (made c).answer c.answer (sym (made c).number ∙ c.is)) (made c).moves

fit-first : (c : HostLife) → Fit c.first
fit-first c = record { lent = sym (fault-none c.first ((made c).long ∙ c.whole) (made c).first); sound = (begun c).sound }

faithful : (c : HostLife) → outputs_of c ≡ outputs (life_of c)
unfolding outputs_of outputs life_of
faithful c =
    let m = begun c in
    ap₂ (λ x y. x ∷ y) m.output ((follows phase_at Fit step (fit-first c) c.run).outputs ∙ ap (λ p. outputs_from p c.inputs) m.phase)

same_end : (c : HostLife) → phase_at c.last ≡ end_of (life_of c)
unfolding end_of life_of
same_end c = (follows phase_at Fit step (fit-first c) c.run).phase ∙ ap (λ p. phase_from p c.inputs) (begun c).phase

pub demand-3-of-hosts-that-step : (cs : List HostLife) → Distinct (map (λ c. (life_of c).start.boot_id) cs) → HostClaim cs
demand-3-of-hosts-that-step = claim-of life_of _ _ faithful same_end

-- what is turned away --------------------------------------------------------------------------------------------------------

left : {w w' : List ℕ} {i : Input} {out : Output} → Fit w → HostStep w i out w' → took_effect out ≡ false → w' ≡ w
left h (called answer n p) e = leaves answer h n p e
left h (replied answer n p) e = leaves answer h n p e
left h (shown s) e = refl

whole_from : {w last : List ℕ} {is : List Input} {outs : List Output} → Fit w → (run : Run HostStep w is outs last) → Whole run
unfolding Whole
whole_from h here = tt
whole_from h (then one more) = (left h one, whole_from (step _ _ _ _ h one).fit more)

-- of every life: a call or a reply that is turned away leaves every word
pub turned-away-leaves-every-word : (c : HostLife) → Whole c.run
turned-away-leaves-every-word c = whole_from (fit-first c) c.run

-- a host that steps by records -------------------------------------------------------------------------------------------

by-records : {w last : List ℕ} {rs : List Record} {outs : List (List ℕ)} → fault_of w ≡ 0 → RecordSteps w rs outs last → Stepping w rs outs last
by-records e none = stepped
by-records e (one_more {w = w} {w' = w'} {f = f} {out = out} p n room more) =
    let s = p.stepped (sym (at_none w f out (lack-none w out (sym e) refl room) refl n)) in
    let k = s.writes in
    and-on (subst (λ (ws : List ℕ). Goes w w' ws (decode (part f 0 16))) (sym (ap (λ (o : List ℕ). part o 0 26) k.words ∙ part-here out 0 s.words 26 k.room room)) s.goes)
    (by-records (still-lent w w' s.goes.first s.goes.long e) more)

-- from cleared words on: the answers to the records, so `demand-3-of-records` speaks of it
pub records-from-cleared : {w w' last : List ℕ} {r : ℕ} {rs : List Record} {outs : List (List ℕ)} → length w ≡ 2464 → Wipes w w' r → RecordSteps w' rs outs last
    → SteppedTo opening rs outs last
unfolding opening
records-from-cleared {w} {w'} h p run =
    let c = (p.wiped h).1 in
    stepped-to opening c.sound (record { listing = c.listed; phase = c.phase }) (by-records (sym (fault-none w' (c.long ∙ h) c.first)) run)

-- .. and from a start by `rolthai_new` on, of which `demand-3-after-a-start` speaks
pub records-from-new : (c : HostLife) {last : List ℕ} {rs : List Record} {outs : List (List ℕ)} → RecordSteps c.first rs outs last
    → SteppedTo (begun_by (start_in c.start c.capabilities)) rs outs last
records-from-new c run =
    stepped-to _ (begun c).sound (record { listing = (made c).listed; phase = (begun c).phase }) (by-records (fit-first c).lent run)

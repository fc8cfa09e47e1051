-- A call meets a runtime wherever it stands: it is turned away, or it begins with its arguments stored. Assumes nothing.
use Prim.Native.Nat.{ℕ}
use mathlib.Core.Bool.{Bool, true, false, not, ◌&&◌}
use mathlib.Core.Path.{◌≡◌, refl, sym, ap, subst, ◌∙◌}
use lib.Dec.{T, eqb}
use Rattle.model.specs.declared.LeaseRequest.{LeaseRequest}
use Rattle.model.specs.declared.Reason.{Reason}
use Rattle.model.specs.declared.Reason.TheVariants.{Startup}
use Rattle.model.specs.declared.Renewal.{Renewal}
use Rattle.model.specs.declared.Submission.{Submission}
use Rattle.model.specs.Reasons.{reply_awaited}
use Rattle.rules.specs.Book.{Book}
use Rattle.rules.specs.Admission.{held_axis}
use Rattle.rules.specs.Interaction.{Interaction, Done, Returned, Polled}
use Rattle.rules.specs.Protocol.{Call, Tick, UpdateState, EmergencyStop, PollEstop, RecoverLocal, Acquire, Renew, Cancel, Submit, Input, Calls, Reminds, ItemFallback, Phase, Reaction, begin, proceed, called, effect, apply, react}
use Rattle.rules.specs.Rules.{tick, update_state, emergency_stop, poll_estop, recover_local, acquire, renew, canceled, cancel, submit}
use Rattle.rules.specs.With.{with_estop_seen}
use Rattle.state.specs.State.{Asked, Hand, book_of, after_tick_of, after_tick, waits, item_at, output_of, phase_at, phase_of, reaction_of}
use Rattle.state.specs.declared.Answer.{Answer}
use Rattle.state.specs.declared.Awaited.{Awaited}
use Rattle.state.specs.declared.CallKind.{CallKind}
use Rattle.state.specs.declared.Pending.{Pending}
use Rattle.state.proofs.Turns.{call-waits, call-begins}
use Rattle.decide_start.specs.Starts.{is_started, away_by}
use Rattle.decide_start.specs.declared.Stage.{Stage}
use Rattle.decide_tick.specs.declared.Begun.{Begun}
use Rattle.decide_tick.specs.declared.Begun.TheVariants.{Quiet, Busy}
use Rattle.runtime.specs.declared.Runtime.{Runtime}
use Rattle.runtime.specs.Promises.{Good, MovesIn, TurnsIn, BegunAs, Begins}
use Rattle.runtime.specs.Runtimes.{asked_in, asked_at, hand_in, state_in, book_on}
use Rattle.runtime.specs.Stages.{phase_at_stage, phase_in, SoundAt, RuntimeSound, Moves, Turns}
use Rattle.runtime.proofs.Courses.{is-yes, is-no}
use Rattle.runtime.proofs.Onward.{busy-loud}
use Rattle.runtime.proofs.Turned.{goes_on}

-- after the start ---------------------------------------------------------------------------------------------------------

pub started-phase : (h : Runtime) → h.starting.stage ≡ Stage.Started → phase_in h ≡ phase_of (state_in h)
unfolding phase_at_stage
started-phase h e = ap (λ (s : Stage). phase_at_stage s h) e

pub good-sound : (h : Runtime) → Good h → RuntimeSound h
unfolding SoundAt
good-sound h g = record { kept = g.kept; staged = subst (λ (s : Stage). SoundAt s h) (sym g.started) g.sound }

pub sound-good : (h : Runtime) → RuntimeSound h → h.starting.stage ≡ Stage.Started → Good h
unfolding SoundAt
sound-good h k e = record { kept = k.kept; sound = subst (λ (s : Stage). SoundAt s h) e k.staged; started = e }

pub moves_so : (z : Runtime) (r : Answer) (x : Reaction) → MovesIn z r x → Moves z r x
unfolding reaction_of
moves_so z r x m =
    record {
      output = ap (λ (y : Reaction). y.output) m.reaction;
      phase = started-phase z m.good.started ∙ ap (λ (y : Reaction). y.phase) m.reaction;
      sound = good-sound z m.good;
    }

-- an input that meets a runtime after its start
pub turns-so : (h z : Runtime) (r : Answer) (i : Input) → h.starting.stage ≡ Stage.Started → TurnsIn h z r (react (phase_of (state_in h)) i)
    → Turns h z r (react (phase_in h) i)
turns-so h z r i e t =
    record {
      moves =
          subst (λ (p : Phase). Moves z r (react p i)) (sym (started-phase h e)) (moves_so z r (react (phase_of (state_in h)) i) t.moves);
      unaltered = t.unaltered;
    }

-- a call ------------------------------------------------------------------------------------------------------------------

abbrev is_open : Stage → Awaited → Bool
is_open s w = is_started s && not (waits w)

-- where it may not begin
record AwayAt (s : Stage) (h : Runtime) (c : Call) : Type 0 where
  output : output_of (away_by s) (state_in h) ≡ (react (phase_at_stage s h) (Calls c)).output
  phase : phase_at_stage s h ≡ (react (phase_at_stage s h) (Calls c)).phase

tried-item : (w : Awaited) (h : Hand) (q : Asked) (reason : Reason) → w ≡ Awaited.Fallback → h.falling.reason ≡ reason
    → item_at w h q ≡ ItemFallback h.falling.axis reason
unfolding item_at
tried-item w h q reason e f =
    subst (λ (x : Awaited). item_at x h q ≡ ItemFallback h.falling.axis reason) (sym e) (ap (ItemFallback h.falling.axis) f)

closed-waits : (b : Bool) → not b ≡ false → b ≡ true
closed-waits true e = refl
closed-waits false e = sym e

away-trying : (h : Runtime) (c : Call) → SoundAt Stage.Trying h → AwayAt Stage.Trying h c
unfolding SoundAt phase_at_stage output_of react effect apply called
away-trying h c k =
    record {
      output = ap (Reminds reply_awaited) (tried-item h.waiting.awaited (hand_in h) (asked_in h) Startup k.awaited k.opened.reason);
      phase = refl;
    }

away-gone : (h : Runtime) (c : Call) → AwayAt Stage.Gone h c
unfolding phase_at_stage output_of react effect apply called
away-gone h c = record { output = refl; phase = refl }

away-started : (h : Runtime) (c : Call) → waits h.waiting.awaited ≡ true → AwayAt Stage.Started h c
unfolding phase_at_stage reaction_of
away-started h c e =
    record {
      output = ap (λ (x : Reaction). x.output) (call-waits (state_in h) c e);
      phase = ap (λ (x : Reaction). x.phase) (call-waits (state_in h) c e);
    }

away-at : (s : Stage) (h : Runtime) (c : Call) → SoundAt s h → is_open s h.waiting.awaited ≡ false → AwayAt s h c
away-at Stage.Trying h c k e = away-trying h c k
away-at Stage.Gone h c k e = away-gone h c
away-at Stage.Started h c k e = away-started h c (closed-waits (waits h.waiting.awaited) e)

pub turned-off : (h : Runtime) (c : Call) → RuntimeSound h → T (not (is_open h.starting.stage h.waiting.awaited))
    → Turns h h (away_by h.starting.stage) (react (phase_in h) (Calls c))
turned-off h c k t =
    let a = away-at h.starting.stage h c k.staged (is-no (is_open h.starting.stage h.waiting.awaited) t) in
    record { moves = record { output = a.output; phase = a.phase; sound = k }; unaltered = λ e. refl }

-- where it may
open-stage : (s : Stage) (w : Awaited) → T (is_open s w) → s ≡ Stage.Started
open-stage Stage.Trying w t = absurd t
open-stage Stage.Gone w t = absurd t
open-stage Stage.Started w t = refl

open-idle : (s : Stage) (w : Awaited) → T (is_open s w) → w ≡ Awaited.Nothing
open-idle Stage.Trying w t = absurd t
open-idle Stage.Gone w t = absurd t
open-idle Stage.Started Awaited.Nothing t = refl
open-idle Stage.Started Awaited.ObserveBefore t = absurd t
open-idle Stage.Started Awaited.Execute t = absurd t
open-idle Stage.Started Awaited.ObserveAfter t = absurd t
open-idle Stage.Started Awaited.Fallback t = absurd t
open-idle Stage.Started Awaited.Record t = absurd t

-- its arguments stored
abbrev pub asked_with : Pending → LeaseRequest → Renewal → Submission → Runtime → Runtime
asked_with p q n s rt =
    record {
      starting = rt.starting;
      waiting = rt.waiting;
      numbers = rt.numbers;
      cursor = rt.cursor;
      slot = rt.slot;
      axis = rt.axis;
      why = rt.why;
      falling = rt.falling;
      revoked = rt.revoked;
      carrying = rt.carrying;
      pending = p;
      fixed = rt.fixed;
      places = rt.places;
      leases = rt.leases;
      active = rt.active;
      capabilities = rt.capabilities;
      replay = rt.replay;
      submission = s;
      request = q;
      renewal = n;
      submitted = rt.submitted;
      slots = rt.slots;
    }

pub asked-good : (h : Runtime) (p : Pending) (q : LeaseRequest) (n : Renewal) (s : Submission) → Good h → Good (asked_with p q n s h)
asked-good h p q n s g =
    let z = g.kept.sized in
    let l = g.kept.placed in
    let d = g.sound in
    record {
      kept =
          record {
            sized =
                record {
                  leases = z.leases;
                  active = z.active;
                  capabilities = z.capabilities;
                  replay = z.replay;
                  rejected = z.rejected;
                  others = z.others;
                  slots = z.slots;
                  lease = z.lease;
                  order = z.order;
                };
            placed = record { count = l.count; slot = l.slot; capability = l.capability; replay = l.replay; receipts = l.receipts };
          };
      sound = record { checked = d.checked; sized = d.sized; counted = d.counted; falling = d.falling; order = d.order };
      started = g.started;
    }

abbrev pub pending_of : CallKind → ℕ → ℕ → ℕ → ℕ → Pending
pending_of kind flags time owner id = record { kind = kind; flags = flags; now = time; owner = owner; lease_id = id }

abbrev Runs : ℕ → Runtime → Runtime → Answer → Type 0
Runs time h z r = MovesIn z r (proceed (tick time (book_on h) (after_tick (asked_at time h))))

module _ (h : Runtime) (k : RuntimeSound h) (t : T (is_open h.starting.stage h.waiting.awaited)) where
  pub open-good : Good h
  open-good = sound-good h k (open-stage h.starting.stage h.waiting.awaited t)

  pub is-idle : h.waiting.awaited ≡ Awaited.Nothing
  is-idle = open-idle h.starting.stage h.waiting.awaited t

  module _ (z : Runtime) (r : Answer) where
    pub begins-so : (c : Call) → MovesIn z r (proceed (begin c (book_on h))) → Turns h z r (react (phase_in h) (Calls c))
    begins-so c m =
        turns-so h z r (Calls c) open-good.started
        (goes_on (begin c (book_on h)) (sym (call-begins (state_in h) c (ap waits is-idle))) m)

    pub begins-sense : (flags time : ℕ) → Runs time (asked_with (pending_of CallKind.UpdateState flags time 0 0) h.request h.renewal h.submission h) z r
        → Turns h z r (react (phase_in h) (Calls (UpdateState flags time)))
    unfolding begin update_state after_tick_of
    begins-sense flags time m = begins-so (UpdateState flags time) m

    pub begins-stop : (time : ℕ) → MovesIn z r (proceed (emergency_stop time (book_on h) (λ b. Done b Returned)))
        → Turns h z r (react (phase_in h) (Calls (EmergencyStop time)))
    unfolding begin
    begins-stop time m = begins-so (EmergencyStop time) m

    pub begins-recover : (time : ℕ) → Runs time (asked_with (pending_of CallKind.RecoverLocal 0 time 0 0) h.request h.renewal h.submission h) z r
        → Turns h z r (react (phase_in h) (Calls (RecoverLocal time)))
    unfolding begin recover_local after_tick_of
    begins-recover time m = begins-so (RecoverLocal time) m

    pub begins-acquire : (request : LeaseRequest) (time : ℕ)
        → Runs time (asked_with (pending_of CallKind.Acquire 0 time 0 0) request h.renewal h.submission h) z r
        → Turns h z r (react (phase_in h) (Calls (Acquire request time)))
    unfolding begin acquire after_tick_of
    begins-acquire request time m = begins-so (Acquire request time) m

    pub begins-renew : (renewal : Renewal)
        → Runs renewal.now (asked_with (pending_of CallKind.Renew 0 renewal.now 0 0) h.request renewal h.submission h) z r
        → Turns h z r (react (phase_in h) (Calls (Renew renewal)))
    unfolding begin renew after_tick_of
    begins-renew renewal m = begins-so (Renew renewal) m

    pub begins-submit : (submission : Submission)
        → Runs submission.now (asked_with (pending_of CallKind.Submit 0 submission.now 0 0) h.request h.renewal submission h) z r
        → Turns h z r (react (phase_in h) (Calls (Submit submission)))
    unfolding begin submit after_tick_of
    begins-submit submission m = begins-so (Submit submission) m

-- a tick in its own right, and a poll -------------------------------------------------------------------------------------

idle-phase : (w : Awaited) (h : Hand) (q : Asked) (b : Book) → w ≡ Awaited.Nothing → phase_at w h q b ≡ phase_at Awaited.Nothing h q b
idle-phase w h q b e = ap (λ (x : Awaited). phase_at x h q b) e

-- an answer where nothing is stored
returns : (h : Runtime) → h.waiting.awaited ≡ Awaited.Nothing → reaction_of Answer.Returned (state_in h) ≡ proceed (Done (book_on h) Returned)
unfolding reaction_of output_of phase_of phase_at proceed
returns h e = ap (λ (p : Phase). record { output = output_of Answer.Returned (state_in h); phase = p }) (idle-phase h.waiting.awaited (hand_in h) (asked_in h) (book_on h) e)

unraised : (h : Runtime) → h.waiting.awaited ≡ Awaited.Nothing → reaction_of Answer.Unraised (state_in h) ≡ proceed (Done (book_on h) (Polled false))
unfolding reaction_of output_of phase_of phase_at proceed
unraised h e = ap (λ (p : Phase). record { output = output_of Answer.Unraised (state_in h); phase = p }) (idle-phase h.waiting.awaited (hand_in h) (asked_in h) (book_on h) e)

module _ (h h' : Runtime) (time : ℕ) (w : h.waiting.awaited ≡ Awaited.Nothing) where
  pub ticks-quiet : (g : Begun) → g ≡ Quiet → Begins time h h' g → MovesIn h' Answer.Returned (proceed (begin (Tick time) (book_on h)))
  unfolding BegunAs begin
  ticks-quiet Quiet e s =
      record {
        reaction = returns h' (ap (λ x. x.awaited) s.waiting ∙ w) ∙ ap proceed (sym (s.begun (λ b. Done b Returned)));
        good = s.good;
      }
  ticks-quiet Busy e s = absurd (busy-loud e)

  pub ticks-busy : (g : Begun) (z : Runtime) (r : Answer) → g ≡ Busy → Begins time h h' g
      → MovesIn z r (proceed (tick time (book_on h') (after_tick (asked_in (asked_with (pending_of CallKind.Tick 0 time 0 0) h'.request h'.renewal h'.submission h')))))
      → MovesIn z r (proceed (begin (Tick time) (book_on h)))
  unfolding BegunAs begin after_tick_of
  ticks-busy Quiet z r e s m = absurd (busy-loud (sym e))
  ticks-busy Busy z r e s m = subst (λ (x : Runtime). MovesIn z r (proceed (tick time (book_on x) (λ b. Done b Returned)))) s.begun m

module _ (h h' : Runtime) (owner lease time : ℕ) where
  pub cancels-quiet : (g : Begun) (z : Runtime) (r : Answer) → g ≡ Quiet → Begins time h h' g
      → MovesIn z r (proceed (canceled (held_axis owner lease (book_on h')) time (book_on h')))
      → MovesIn z r (proceed (begin (Cancel owner lease time) (book_on h)))
  unfolding BegunAs begin cancel
  cancels-quiet Quiet z r e s m =
      subst (λ (x : Interaction). MovesIn z r (proceed x)) (sym (s.begun (λ b. canceled (held_axis owner lease b) time b))) m
  cancels-quiet Busy z r e s m = absurd (busy-loud e)

  pub cancels-busy : (g : Begun) (z : Runtime) (r : Answer) → g ≡ Busy → Begins time h h' g
      → MovesIn z r (proceed (tick time (book_on h') (after_tick (asked_in (asked_with (pending_of CallKind.Cancel 0 time owner lease) h'.request h'.renewal h'.submission h')))))
      → MovesIn z r (proceed (begin (Cancel owner lease time) (book_on h)))
  unfolding BegunAs begin cancel after_tick_of
  cancels-busy Quiet z r e s m = absurd (busy-loud (sym e))
  cancels-busy Busy z r e s m =
      subst (λ (x : Runtime). MovesIn z r (proceed (tick time (book_on x) (λ b. canceled (held_axis owner lease b) time b)))) s.begun m

module _ (h : Runtime) (raised time : ℕ) where
  pub polls-seen : Good h → h.waiting.awaited ≡ Awaited.Nothing → T (eqb raised h.numbers.estop_seen)
      → MovesIn h Answer.Unraised (proceed (begin (PollEstop raised time) (book_on h)))
  unfolding begin poll_estop book_of
  polls-seen g w t = record { reaction = rw (is-yes (eqb raised h.numbers.estop_seen) t) (unraised h w); good = g }

  pub polls-raised : (z : Runtime) (r : Answer) → T (not (eqb raised h.numbers.estop_seen))
      → MovesIn z r (proceed (emergency_stop time (with_estop_seen raised (book_on h)) (λ b. Done b (Polled true))))
      → MovesIn z r (proceed (begin (PollEstop raised time) (book_on h)))
  unfolding begin poll_estop book_of
  polls-raised z r t m = rw (is-no (eqb raised h.numbers.estop_seen) t) m

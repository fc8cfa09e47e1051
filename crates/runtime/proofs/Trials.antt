-- The startup fallbacks in a runtime, and what a reply meets while they are tried. Assumes nothing.
use Prim.Native.Nat.{ℕ, ◌+◌, ◌<◌, ◌≤◌}
use mathlib.Core.Bool.{Bool, true, false, cond, not, ◌&&◌, false≢true}
use mathlib.Core.List.{List, [], ◌∷◌}
use mathlib.Core.Path.{◌≡◌, refl, sym, ap, subst, ◌∙◌}
use native.Mathlib.Omega.{arith}
use borrow.Author.Tests.{ltb-true, ltb-false}
use lib.Dec.{T, ltb}
use Rattle.model.specs.declared.Reason.{Reason}
use Rattle.model.specs.declared.Reason.TheVariants.{Startup}
use Rattle.model.specs.Reasons.{other_reply_awaited}
use Rattle.rules.specs.Protocol.{Start, Input, Reply, Observed, Executed, FellBack, Recorded, Replies, ItemFallback, Hands, Reminds, Phase, Idle, Effect, Stays, start_from, start_replied, replied, effect, apply, react}
use Rattle.state.specs.Axes.{first_used, used_from}
use Rattle.state.specs.State.{Asked, Hand, carries, Sound, item_at, output_of, phase_at, phase_of}
use Rattle.state.specs.declared.Answer.{Answer}
use Rattle.state.specs.declared.Awaited.{Awaited}
use Rattle.state.proofs.Axes.{used-first, used-none}
use Rattle.decide_start.specs.declared.Stage.{Stage}
use Rattle.decide_start.specs.declared.Trial.{Trial}
use Rattle.decide_start.specs.Starts.{tried_at, ended_by, over_by, trial_of, is_started, unheard_by}
use Rattle.runtime.specs.declared.Runtime.{Runtime}
use Rattle.runtime.specs.Promises.{Kept, Good, TurnsIn}
use Rattle.runtime.specs.Runtimes.{tables_in, asked_in, hand_in, state_in}
use Rattle.runtime.specs.Stages.{start_in, trying_in, phase_at_stage, phase_in, Opened, Tries, SoundAt, RuntimeSound, Moves, Turns}
use Rattle.runtime.proofs.Callings.{sound-good, turns-so}
use Rattle.runtime.proofs.Turned.{is_away, away}

-- a trial stored
abbrev tried_in : Trial → Runtime → Runtime
tried_in t rt =
    record {
      starting = t.starting;
      waiting = t.waiting;
      numbers = rt.numbers;
      cursor = rt.cursor;
      slot = rt.slot;
      axis = rt.axis;
      why = rt.why;
      falling =
          record {
            time = rt.falling.time;
            axis = t.axis;
            at = rt.falling.at;
            reason = rt.falling.reason;
            after = rt.falling.after;
            good = rt.falling.good;
            after_trip = rt.falling.after_trip;
          };
      revoked = rt.revoked;
      carrying = rt.carrying;
      pending = rt.pending;
      fixed = rt.fixed;
      places = rt.places;
      leases = rt.leases;
      active = rt.active;
      capabilities = rt.capabilities;
      replay = rt.replay;
      submission = rt.submission;
      request = rt.request;
      renewal = rt.renewal;
      submitted = rt.submitted;
      slots = rt.slots;
    }

module _ (h : Runtime) (o : Opened h) where
  tried-kept : (t : Trial) → Kept (tried_in t h)
  tried-kept t =
      let z = o.kept.sized in
      let q = o.kept.placed in
      record {
        sized =
            record {
              leases = z.leases;
              active = z.active;
              capabilities = z.capabilities;
              replay = z.replay;
              rejected = z.rejected;
              others = z.others;
              slots = z.slots;
              lease = z.lease;
              order = z.order;
            };
        placed = record { count = q.count; slot = q.slot; capability = q.capability; replay = q.replay; receipts = q.receipts };
      }

  tried-sound : (t : Trial) → t.axis < 8 → carries t.waiting.awaited ≡ false → Sound (state_in (tried_in t h))
  tried-sound t b e =
      record {
        checked = o.sound.checked;
        sized = o.sound.sized;
        counted = o.sound.counted;
        falling = record { axis = b; at = o.sound.falling.at };
        order = record { axis = o.sound.order.axis; leased = λ c. absurd (false≢true (sym e ∙ c)) };
      }

  -- an axis is tried
  tried-moves : (axis : ℕ) (rest : List ℕ) (good : Bool) → axis < 8 → rest ≡ used_from (tables_in h).capabilities (axis + 1)
      → Moves (tried_in (tried_at axis good) h) Answer.Item (start_from (start_in h) (axis ∷ rest) good)
  unfolding start_from output_of item_at phase_at_stage SoundAt
  tried-moves axis rest good b e =
      record {
        output = ap (λ (r : Reason). Hands (ItemFallback axis r)) o.reason;
        phase = rw e;
        sound =
            record {
              kept = tried-kept (tried_at axis good);
              staged =
                  record {
                    opened = record { kept = tried-kept (tried_at axis good); sound = tried-sound (tried_at axis good) b refl; book = o.book; reason = o.reason };
                    awaited = refl;
                  };
            };
      }

  -- past the last axis
  over-moves : (good : Bool) → Moves (tried_in (over_by good) h) (over_by good).answer (start_from (start_in h) [] good)
  unfolding start_from output_of phase_at_stage phase_of phase_at SoundAt
  over-moves true =
      let t = ended_by Stage.Started true Answer.Started in
      record {
        output = refl;
        phase = ap Idle o.book;
        sound = record { kept = tried-kept t; staged = tried-sound t (omega arith) refl };
      }
  over-moves false =
      record { output = refl; phase = refl; sound = record { kept = tried-kept (ended_by Stage.Gone false Answer.StartupFailed); staged = refl } }

  module _ (from : ℕ) (good : Bool) where
    -- the first used axis from one on
    pub tries-from : Moves (tried_in (trial_of (first_used h.fixed.used from) good) h) (trial_of (first_used h.fixed.used from) good).answer
        (start_from (start_in h) (used_from (tables_in h).capabilities from) good)
    tries-from = test (ltb (first_used h.fixed.used from) 8) refl
      where
        test : (b : Bool) → ltb (first_used h.fixed.used from) 8 ≡ b
            → Moves (tried_in (cond b (tried_at (first_used h.fixed.used from) good) (over_by good)) h)
            (cond b (tried_at (first_used h.fixed.used from) good) (over_by good)).answer
            (start_from (start_in h) (used_from (tables_in h).capabilities from) good)
        test true e =
            let b = ltb-true _ _ e in
            rw (used-first o.sound.checked from (first_used h.fixed.used from) refl b)
            (tried-moves (first_used h.fixed.used from) _ good b refl)
        test false e = rw (used-none o.sound.checked from (first_used h.fixed.used from) refl (ltb-false _ _ e)) (over-moves good)

-- the reply to a startup fallback ------------------------------------------------------------------------------------------

pub next-axis : (h : Runtime) → Tries h → h.falling.axis + 1 ≤ 8
next-axis h t = omega (arith, t.opened.sound.falling.axis)

pub next_fits : (h : Runtime) → Tries h → h.falling.axis + 1 < 256
next_fits h t = omega (arith, t.opened.sound.falling.axis)

pub next-tries : (h : Runtime) {z : Runtime} {r : Answer} (ok : Bool)
    → Moves z r (start_from (start_in h) (used_from (tables_in h).capabilities (h.falling.axis + 1)) (h.starting.good && ok))
    → Moves z r (react (trying_in h) (Replies (FellBack ok)))
unfolding react apply effect replied start_replied
next-tries h ok m = m

-- a reply ----------------------------------------------------------------------------------------------------------------

-- after the start
started-stage : (s : Stage) → T (is_started s) → s ≡ Stage.Started
started-stage Stage.Trying t = absurd t
started-stage Stage.Gone t = absurd t
started-stage Stage.Started t = refl

pub is-started : (h : Runtime) → h.starting.stage ≡ Stage.Started → T (is_started h.starting.stage)
is-started h e = subst (λ (s : Stage). T (is_started s)) (sym e) tt

pub started-good : (h : Runtime) → RuntimeSound h → T (is_started h.starting.stage) → Good h
started-good h k t = sound-good h k (started-stage h.starting.stage t)

pub started-turns : (h z : Runtime) (r : Answer) (i : Input) → T (is_started h.starting.stage) → TurnsIn h z r (react (phase_of (state_in h)) i)
    → Turns h z r (react (phase_in h) i)
started-turns h z r i t m = turns-so h z r i (started-stage h.starting.stage t) m

-- where it is turned away
record StaysAt (s : Stage) (h : Runtime) (y : Reply) (a : Answer) : Type 0 where
  output : output_of a (state_in h) ≡ (react (phase_at_stage s h) (Replies y)).output
  phase : phase_at_stage s h ≡ (react (phase_at_stage s h) (Replies y)).phase

stays : (h : Runtime) (y : Reply) (a : Answer) → RuntimeSound h → StaysAt h.starting.stage h y a → Turns h h a (react (phase_in h) (Replies y))
stays h y a k s = record { moves = record { output = s.output; phase = s.phase; sound = k }; unaltered = λ e. refl }

-- of another kind than a fallback's
abbrev pub is_other : Reply → Bool
is_other (Observed seen) = true
is_other (Executed ok) = true
is_other (FellBack ok) = false
is_other Recorded = true

other-stays : (y : Reply) → is_other y ≡ true → (s : Start) (axis : ℕ) (rest : List ℕ) (good : Bool)
    → start_replied y s axis rest good ≡ Stays (Reminds other_reply_awaited (ItemFallback axis Startup))
unfolding start_replied
other-stays (Observed seen) e s axis rest good = refl
other-stays (Executed ok) e s axis rest good = refl
other-stays (FellBack ok) e s axis rest good = absurd (false≢true e)
other-stays Recorded e s axis rest good = refl

tried-item : (w : Awaited) (d : Hand) (q : Asked) → w ≡ Awaited.Fallback → d.falling.reason ≡ Startup → item_at w d q ≡ ItemFallback d.falling.axis Startup
unfolding item_at
tried-item w d q e f =
    subst (λ (x : Awaited). item_at x d q ≡ ItemFallback d.falling.axis Startup) (sym e) (ap (ItemFallback d.falling.axis) f)

stays-trying : (h : Runtime) (y : Reply) → is_other y ≡ true → Tries h → StaysAt Stage.Trying h y Answer.OtherAwaited
unfolding output_of phase_at_stage react effect apply replied
stays-trying h y o t =
    let e = other-stays y o (start_in h) h.falling.axis (used_from (tables_in h).capabilities (h.falling.axis + 1)) h.starting.good in
    record {
      output =
          ap (Reminds other_reply_awaited) (tried-item h.waiting.awaited (hand_in h) (asked_in h) t.awaited t.opened.reason)
          ∙ ap (λ (x : Effect). (apply (trying_in h) x).output) (sym e);
      phase = ap (λ (x : Effect). (apply (trying_in h) x).phase) (sym e);
    }

stays-gone : (h : Runtime) (y : Reply) → StaysAt Stage.Gone h y Answer.NoReplyAwaited
unfolding output_of phase_at_stage react effect apply replied
stays-gone h y = record { output = refl; phase = refl }

stays-unheard : (s : Stage) (h : Runtime) (y : Reply) → is_other y ≡ true → SoundAt s h → T (not (is_started s)) → StaysAt s h y (unheard_by s)
unfolding SoundAt
stays-unheard Stage.Trying h y o k t = stays-trying h y o k
stays-unheard Stage.Gone h y o k t = stays-gone h y
stays-unheard Stage.Started h y o k t = absurd t

pub unheard-turns : (h : Runtime) (y : Reply) → is_other y ≡ true → RuntimeSound h → T (not (is_started h.starting.stage))
    → Turns h h (unheard_by h.starting.stage) (react (phase_in h) (Replies y))
unheard-turns h y o k t = stays h y (unheard_by h.starting.stage) k (stays-unheard h.starting.stage h y o k.staged t)

pub gone-turns : (h : Runtime) (y : Reply) → RuntimeSound h → h.starting.stage ≡ Stage.Gone → Turns h h Answer.NoReplyAwaited (react (phase_in h) (Replies y))
gone-turns h y k e =
    stays h y Answer.NoReplyAwaited k (subst (λ (s : Stage). StaysAt s h y Answer.NoReplyAwaited) (sym e) (stays-gone h y))

-- of a startup fallback: nothing that a start goes on with is turned away
start-goes : (s : Start) (axes : List ℕ) (good : Bool) → is_away (start_from s axes good).output ≡ false
unfolding is_away start_from
start-goes s (axis ∷ rest) good = refl
start-goes s [] true = refl
start-goes s [] false = refl

trial-goes : (h : Runtime) (ok : Bool) → is_away (react (trying_in h) (Replies (FellBack ok))).output ≡ false
unfolding react apply effect replied start_replied
trial-goes h ok = start-goes (start_in h) (used_from (tables_in h).capabilities (h.falling.axis + 1)) (h.starting.good && ok)

trying-phase : (h : Runtime) → h.starting.stage ≡ Stage.Trying → phase_in h ≡ trying_in h
unfolding phase_at_stage
trying-phase h e = ap (λ (s : Stage). phase_at_stage s h) e

pub trying-tries : (h : Runtime) → RuntimeSound h → h.starting.stage ≡ Stage.Trying → Tries h
unfolding SoundAt
trying-tries h k e = subst (λ (s : Stage). SoundAt s h) e k.staged

pub tried-turns : (h z : Runtime) (r : Answer) (ok : Bool) → h.starting.stage ≡ Stage.Trying → Moves z r (react (trying_in h) (Replies (FellBack ok)))
    → Turns h z r (react (phase_in h) (Replies (FellBack ok)))
tried-turns h z r ok e m =
    record {
      moves = subst (λ (p : Phase). Moves z r (react p (Replies (FellBack ok)))) (sym (trying-phase h e)) m;
      unaltered = λ t. absurd (false≢true (sym (trial-goes h ok) ∙ sym (ap is_away m.output) ∙ away r (state_in z) t));
    }

-- Calls, startup fallbacks and replies over words: what is turned away leaves every word, and what goes on is not turned away. Assumes nothing.
use Prim.Native.Nat.{ℕ, ◌+◌, ◌<◌, ◌≤◌}
use mathlib.Core.Bool.{Bool, true, false, not, cond, ◌&&◌}
use mathlib.Core.List.{List}
use mathlib.Core.Path.{◌≡◌, refl, sym, ap, subst, ◌∙◌}
use native.Mathlib.Omega.{arith}
use borrow.Author.Tests.{ltb-true}
use lib.Dec.{T, ltb, eqb}
use Rattle.model.specs.declared.LeaseRequest.{LeaseRequest}
use Rattle.model.specs.declared.Renewal.{Renewal}
use Rattle.model.specs.declared.Submission.{Submission}
use Rattle.rules.specs.Admission.{held_axis}
use Rattle.rules.specs.Interaction.{Interaction, Done, Returned, Polled}
use Rattle.rules.specs.Protocol.{Call, Tick, UpdateState, EmergencyStop, PollEstop, RecoverLocal, Acquire, Renew, Cancel, Submit, Input, Calls, Reply, FellBack, Replies, begin, proceed, react, start_from}
use Rattle.rules.specs.Rules.{tick, emergency_stop, canceled}
use Rattle.rules.specs.With.{with_estop_seen}
use Rattle.rows.proofs.Codes.{below_less}
use Rattle.rows.specs.Rows.{falling_of, falling_words}
use Rattle.state.specs.Axes.{first_used, used_from}
use Rattle.state.specs.State.{InBounds, after_tick, phase_of, waits}
use Rattle.state.specs.declared.Answer.{Answer}
use Rattle.state.specs.declared.Awaited.TheVariants as Awaited
use Rattle.state.specs.declared.CallKind.TheVariants as CallKind
use Rattle.state.specs.declared.Falling.{Falling}
use Rattle.state.specs.declared.Fixed.{Fixed}
use Rattle.state.specs.declared.Numbers.{Numbers}
use Rattle.state.specs.declared.Pending.{Pending}
use Rattle.state.specs.declared.Waiting.{Waiting}
use Rattle.decide_start.specs.Starts.{is_started, away_by, unheard_by, tried_at, over_by, trial_of}
use Rattle.decide_start.specs.declared.Stage.{Stage}
use Rattle.decide_start.specs.declared.Starting.{Starting}
use Rattle.decide_start.specs.declared.Trial.{Trial}
use Rattle.decide_tick.specs.declared.Begun.{Begun}
use Rattle.decide_tick.specs.declared.Begun.TheVariants.{Quiet, Busy}
use Rattle.runtime.specs.declared.Runtime.{Runtime}
use Rattle.runtime.specs.Promises.{Good, MovesIn, turns_away}
use Rattle.runtime.specs.Runtimes.{tables_in, asked_in, asked_at, state_in, book_on}
use Rattle.runtime.specs.Stages.{start_in, trying_in, phase_in, Opened, Tries, RuntimeSound, Moves}
use Rattle.runtime.specs.Stages as Stages
use Rattle.runtime.proofs.Callings.{pending_of, asked_with, asked-good, open-good, is-idle, turned-off, begins-so, begins-sense, begins-stop, begins-recover, begins-acquire, begins-renew, begins-submit, ticks-quiet, ticks-busy, cancels-quiet, cancels-busy, polls-seen, polls-raised}
use Rattle.runtime.proofs.Trials.{tries-from, next-tries, is-started, started-good, started-turns, is_other, unheard-turns, gone-turns, trying-tries, tried-turns}
use Rattle.runtime.proofs.Turned.{goes_on}
use Rattle.layout.specs.Fields.{with_slot, with_starting, with_waiting, with_falling, with_pending, with_request, with_renewal, with_submission}
use Rattle.layout.specs.Layout.{runtime_in, Same, Becomes}
use Rattle.layout.specs.Promises.{Goes, Turns}
use Rattle.host_calls.specs.Calls.{Steps, Tried}
use Rattle.host_steps.specs.Altered.{BeginsIn}
use Rattle.layout.proofs.Chains.{same-words, same_then, becomes-then}
use Rattle.host_steps.proofs.Courses.{is-so, is-not}

-- what goes on is not turned away ---------------------------------------------------------------------------------------------

-- it would leave a runtime as it was, whatever stood in a field that nothing asks for
two-slots : {z : Runtime} (h : Runtime) → z ≡ with_slot 0 h → z ≡ with_slot 1 h → ⊥
two-slots h e f = omega (arith, ap (λ (x : Runtime). x.slot) (sym e ∙ f))

goes-unturned : {z : Runtime} {r : Answer} (i : Interaction) → MovesIn z r (proceed i) → turns_away r ≡ true → ⊥
goes-unturned {z} i m t = two-slots z ((goes_on {h = with_slot 0 z} i refl m).unaltered t) ((goes_on {h = with_slot 1 z} i refl m).unaltered t)

tries-unturned : (h : Runtime) {z : Runtime} {r : Answer} (ok : Bool) → h.starting.stage ≡ Stage.Trying → Moves z r (react (trying_in h) (Replies (FellBack ok)))
    → turns_away r ≡ true → ⊥
tries-unturned h {z} {r} ok e m t =
    two-slots h ((tried-turns (with_slot 0 h) z r ok e m).unaltered t) ((tried-turns (with_slot 1 h) z r ok e m).unaltered t)

-- a call in its own right -----------------------------------------------------------------------------------------------------

-- its arguments stored, and its tick supervised
abbrev Supervised : ℕ → Runtime → Runtime → Answer → Type 0
Supervised time h z r = MovesIn z r (proceed (tick time (book_on h) (after_tick (asked_in h))))

module _ {u v w' : List ℕ} {r : Answer} {y : Pending} (time : ℕ) (p : Pending) (ey : y ≡ p) (put : Becomes u v (with_pending y (runtime_in u)))
    (l : Goes v w' r (Good (runtime_in v)) (proceed (tick time (book_on (runtime_in v)) (after_tick (asked_in (runtime_in v)))))) where
  supervised : Good (runtime_in u) → Supervised time (with_pending p (runtime_in u)) (runtime_in w') r
  supervised g =
      let e = (rw ey at put).stored in
      subst (λ (h : Runtime). Supervised time h (runtime_in w') r) e (l.moves (subst Good (sym e) (asked-good (runtime_in u) p _ _ _ g)))

module _ {w u : List ℕ} {g : Begun} (time : ℕ) (begun : BeginsIn time w u g) where
  pub tick-quiet : g ≡ Quiet → Goes w u Answer.Returned (Good (runtime_in w) × ((runtime_in w).waiting.awaited ≡ Awaited.Nothing)) (proceed (begin (Tick time) (book_on (runtime_in w))))
  tick-quiet q =
      record { same = begun.same; moves = λ k. ticks-quiet (runtime_in w) (runtime_in u) time k.1 g q (begun.begins k.0) }

  pub tick-busy : {v w' : List ℕ} {r : Answer} {y : Pending} → g ≡ Busy → y ≡ pending_of CallKind.Tick 0 time 0 0 → Becomes u v (with_pending y (runtime_in u))
      → Goes v w' r (Good (runtime_in v)) (proceed (tick time (book_on (runtime_in v)) (after_tick (asked_in (runtime_in v)))))
      → Goes w w' r (Good (runtime_in w) × ((runtime_in w).waiting.awaited ≡ Awaited.Nothing)) (proceed (begin (Tick time) (book_on (runtime_in w))))
  tick-busy {w' = w'} {r} q ey put l =
      record {
        same = same_then begun.same (same_then put.same l.same);
        moves =
            λ k.
            let s = begun.begins k.0 in
            ticks-busy (runtime_in w) (runtime_in u) time k.1 g (runtime_in w') r q s (supervised time (pending_of CallKind.Tick 0 time 0 0) ey put l s.good);
      }

  module _ (owner id : ℕ) where
    pub cancel-quiet : {w' : List ℕ} {r : Answer} → g ≡ Quiet
        → Goes u w' r (Good (runtime_in u)) (proceed (canceled (held_axis owner id (book_on (runtime_in u))) time (book_on (runtime_in u))))
        → Goes w w' r (Good (runtime_in w)) (proceed (begin (Cancel owner id time) (book_on (runtime_in w))))
    cancel-quiet {w'} {r} q l =
        record {
          same = same_then begun.same l.same;
          moves =
              λ k.
              let s = begun.begins k in
              cancels-quiet (runtime_in w) (runtime_in u) owner id time g (runtime_in w') r q s (l.moves s.good);
        }

    pub cancel-busy : {v w' : List ℕ} {r : Answer} {y : Pending} → g ≡ Busy → y ≡ pending_of CallKind.Cancel 0 time owner id → Becomes u v (with_pending y (runtime_in u))
        → Goes v w' r (Good (runtime_in v)) (proceed (tick time (book_on (runtime_in v)) (after_tick (asked_in (runtime_in v)))))
        → Goes w w' r (Good (runtime_in w)) (proceed (begin (Cancel owner id time) (book_on (runtime_in w))))
    cancel-busy {w' = w'} {r} q ey put l =
        record {
          same = same_then begun.same (same_then put.same l.same);
          moves =
              λ k.
              let s = begun.begins k in
              cancels-busy (runtime_in w) (runtime_in u) owner id time g (runtime_in w') r q s (supervised time (pending_of CallKind.Cancel 0 time owner id) ey put l s.good);
        }

module _ (w : List ℕ) {numbers : Numbers} {b : Bool} (raised time : ℕ) (n : numbers ≡ (runtime_in w).numbers) (test : b ≡ eqb raised numbers.estop_seen) where
  seen-so : b ≡ eqb raised (runtime_in w).numbers.estop_seen
  seen-so = rw n at test

  pub poll-seen : b ≡ true → Goes w w Answer.Unraised (Good (runtime_in w) × ((runtime_in w).waiting.awaited ≡ Awaited.Nothing)) (proceed (begin (PollEstop raised time) (book_on (runtime_in w))))
  poll-seen t = record { same = same-words; moves = λ k. polls-seen (runtime_in w) raised time k.0 k.1 (is-so (sym seen-so ∙ t)) }

  pub poll-raised : {w' : List ℕ} {r : Answer} → b ≡ false
      → Goes w w' r (Good (runtime_in w)) (proceed (emergency_stop time (with_estop_seen raised (book_on (runtime_in w))) (λ b. Done b (Polled true))))
      → Goes w w' r (Good (runtime_in w) × ((runtime_in w).waiting.awaited ≡ Awaited.Nothing)) (proceed (begin (PollEstop raised time) (book_on (runtime_in w))))
  poll-raised {w'} {r} t l =
      record { same = l.same; moves = λ k. polls-raised (runtime_in w) raised time (runtime_in w') r (is-not (sym seen-so ∙ t)) (l.moves k.0) }

-- a call ----------------------------------------------------------------------------------------------------------------------

abbrev Ran : ℕ → Runtime → Runtime → Answer → Type 0
Ran time h z r = MovesIn z r (proceed (tick time (book_on h) (after_tick (asked_at time h))))

abbrev may_begin : Runtime → Bool
may_begin h = is_started h.starting.stage && not (waits h.waiting.awaited)

module _ (w : List ℕ) {starting : Starting} {waiting : Waiting} {b : Bool} (s : starting ≡ (runtime_in w).starting) (a : waiting ≡ (runtime_in w).waiting)
    (test : b ≡ (is_started starting.stage && not (waits waiting.awaited))) where
  may-so : b ≡ may_begin (runtime_in w)
  may-so = rw (s, a) at test

  pub away-steps : {r : Answer} (c : Call) → b ≡ false → r ≡ away_by starting.stage → Steps w w r (Calls c)
  away-steps c t e =
      record {
        same = same-words;
        moves = λ k. rw (e, s) (turned-off (runtime_in w) c k (is-not (sym may-so ∙ t))).moves;
        unaltered = λ k q. refl;
      }

  module _ {w' : List ℕ} {r : Answer} (t : b ≡ true) where
    -- where it begins
    steps-by : (c : Call) (i : Interaction) → Same w w' → (Good (runtime_in w) → (runtime_in w).waiting.awaited ≡ Awaited.Nothing → MovesIn (runtime_in w') r (proceed i))
        → ((k : RuntimeSound (runtime_in w)) → MovesIn (runtime_in w') r (proceed i) → Stages.Turns (runtime_in w) (runtime_in w') r (react (phase_in (runtime_in w)) (Calls c)))
        → Steps w w' r (Calls c)
    steps-by c i same m law =
        let may = is-so (sym may-so ∙ t) in
        let at : RuntimeSound (runtime_in w) → MovesIn (runtime_in w') r (proceed i) = λ k. m (open-good (runtime_in w) k may) (is-idle (runtime_in w) k may) in
        record {
          same = same;
          moves = λ k. (law k (at k)).moves;
          unaltered = λ k q. absurd (goes-unturned i (at k) q);
        }

    pub call-steps : (c : Call) → Goes w w' r (Good (runtime_in w)) (proceed (begin c (book_on (runtime_in w)))) → Steps w w' r (Calls c)
    call-steps c l =
        steps-by c (begin c (book_on (runtime_in w))) l.same (λ g i. l.moves g)
        (λ k m. begins-so (runtime_in w) k (is-so (sym may-so ∙ t)) (runtime_in w') r c m)

    pub idle-steps : (c : Call) → Goes w w' r (Good (runtime_in w) × ((runtime_in w).waiting.awaited ≡ Awaited.Nothing)) (proceed (begin c (book_on (runtime_in w))))
        → Steps w w' r (Calls c)
    idle-steps c l =
        steps-by c (begin c (book_on (runtime_in w))) l.same (λ g i. l.moves (g, i))
        (λ k m. begins-so (runtime_in w) k (is-so (sym may-so ∙ t)) (runtime_in w') r c m)

    pub stop-steps : (time : ℕ) → Goes w w' r (Good (runtime_in w)) (proceed (emergency_stop time (book_on (runtime_in w)) (λ b. Done b Returned)))
        → Steps w w' r (Calls (EmergencyStop time))
    stop-steps time l =
        steps-by (EmergencyStop time) _ l.same (λ g i. l.moves g)
        (λ k m. begins-stop (runtime_in w) k (is-so (sym may-so ∙ t)) (runtime_in w') r time m)

    -- .. with its arguments stored, and its tick
    module _ {v : List ℕ} (time : ℕ)
        (l : Goes v w' r (Good (runtime_in v)) (proceed (tick time (book_on (runtime_in v)) (after_tick (asked_at time (runtime_in v)))))) where
      runs_by : (c : Call) (p : Pending) (q : LeaseRequest) (n : Renewal) (o : Submission) → Becomes w v (asked_with p q n o (runtime_in w))
          → ((k : RuntimeSound (runtime_in w)) → Ran time (asked_with p q n o (runtime_in w)) (runtime_in w') r → Stages.Turns (runtime_in w) (runtime_in w') r (react (phase_in (runtime_in w)) (Calls c)))
          → Steps w w' r (Calls c)
      runs_by c p q n o put law =
          steps-by c (tick time (book_on (asked_with p q n o (runtime_in w))) (after_tick (asked_at time (asked_with p q n o (runtime_in w))))) (same_then put.same l.same)
          (λ g i. subst (λ (h : Runtime). Ran time h (runtime_in w') r) put.stored (l.moves (subst Good (sym put.stored) (asked-good (runtime_in w) p q n o g)))) law

      pub sense-steps : {y : Pending} (flags : ℕ) → y ≡ pending_of CallKind.UpdateState flags time 0 0 → Becomes w v (with_pending y (runtime_in w))
          → Steps w w' r (Calls (UpdateState flags time))
      sense-steps flags ey put =
          runs_by (UpdateState flags time) _ _ _ _ (rw ey at put)
          (λ k m. begins-sense (runtime_in w) k (is-so (sym may-so ∙ t)) (runtime_in w') r flags time m)

      pub recover-steps : {y : Pending} → y ≡ pending_of CallKind.RecoverLocal 0 time 0 0 → Becomes w v (with_pending y (runtime_in w)) → Steps w w' r (Calls (RecoverLocal time))
      recover-steps ey put =
          runs_by (RecoverLocal time) _ _ _ _ (rw ey at put)
          (λ k m. begins-recover (runtime_in w) k (is-so (sym may-so ∙ t)) (runtime_in w') r time m)

      pub acquire-steps : {u : List ℕ} {y : Pending} (request : LeaseRequest) → Becomes w u (with_request request (runtime_in w))
          → y ≡ pending_of CallKind.Acquire 0 time 0 0 → Becomes u v (with_pending y (runtime_in u)) → Steps w w' r (Calls (Acquire request time))
      acquire-steps request first ey put =
          runs_by (Acquire request time) _ _ _ _ (becomes-then (with_pending (pending_of CallKind.Acquire 0 time 0 0)) first (rw ey at put))
          (λ k m. begins-acquire (runtime_in w) k (is-so (sym may-so ∙ t)) (runtime_in w') r request time m)

    pub renew-steps : {u v : List ℕ} {y : Pending} (renewal : Renewal) → Becomes w u (with_renewal renewal (runtime_in w)) → y ≡ pending_of CallKind.Renew 0 renewal.now 0 0
        → Becomes u v (with_pending y (runtime_in u))
        → Goes v w' r (Good (runtime_in v)) (proceed (tick renewal.now (book_on (runtime_in v)) (after_tick (asked_at renewal.now (runtime_in v)))))
        → Steps w w' r (Calls (Renew renewal))
    renew-steps renewal first ey put l =
        runs_by renewal.now l (Renew renewal) _ _ _ _ (becomes-then (with_pending (pending_of CallKind.Renew 0 renewal.now 0 0)) first (rw ey at put))
        (λ k m. begins-renew (runtime_in w) k (is-so (sym may-so ∙ t)) (runtime_in w') r renewal m)

    pub submit-steps : {u v : List ℕ} {y : Pending} (submission : Submission) → Becomes w u (with_submission submission (runtime_in w))
        → y ≡ pending_of CallKind.Submit 0 submission.now 0 0 → Becomes u v (with_pending y (runtime_in u))
        → Goes v w' r (Good (runtime_in v)) (proceed (tick submission.now (book_on (runtime_in v)) (after_tick (asked_at submission.now (runtime_in v)))))
        → Steps w w' r (Calls (Submit submission))
    submit-steps submission first ey put l =
        runs_by submission.now l (Submit submission) _ _ _ _ (becomes-then (with_pending (pending_of CallKind.Submit 0 submission.now 0 0)) first (rw ey at put))
        (λ k m. begins-submit (runtime_in w) k (is-so (sym may-so ∙ t)) (runtime_in w') r submission m)

-- the startup fallbacks -------------------------------------------------------------------------------------------------------

-- whatever the words hold
pub falling-within : (w : List ℕ) → InBounds (runtime_in w).falling
unfolding runtime_in falling_of
falling-within w = record { axis = below_less 8 _ (omega arith); at = below_less 8 _ (omega arith) }

pub next-within : (w : List ℕ) {falling : Falling} → falling ≡ (runtime_in w).falling → falling.axis + 1 ≤ 8
next-within w e = rw e (omega (arith, (falling-within w).axis))

trial-within : (axis : ℕ) (good : Bool) → (trial_of axis good).axis < 8
trial-within axis good = test (ltb axis 8) good refl
  where
    test : (b good : Bool) → ltb axis 8 ≡ b → (cond b (tried_at axis good) (over_by good)).axis < 8
    test true good e = ltb-true _ _ e
    test false true e = omega arith
    test false false e = omega arith

abbrev on_axis : ℕ → Falling → Falling
on_axis axis f =
    record { time = f.time; axis = axis; at = f.at; reason = f.reason; after = f.after; good = f.good; after_trip = f.after_trip }

pub from-tried : {w u v w' : List ℕ} {fixed : Fixed} {axis : ℕ} {t : Trial} {falling : Falling} (from : ℕ) (good : Bool)
    → fixed ≡ (runtime_in w).fixed → axis ≡ first_used fixed.used from → t ≡ trial_of axis good → falling ≡ (runtime_in w).falling
    → Becomes w u (with_starting t.starting (runtime_in w)) → Becomes u v (with_waiting t.waiting (runtime_in u))
    → Becomes v w' (with_falling (falling_of (falling_words (on_axis t.axis falling))) (runtime_in v))
    → (InBounds (on_axis t.axis falling) → falling_of (falling_words (on_axis t.axis falling)) ≡ on_axis t.axis falling)
    → Tried w w' t.answer (Opened (runtime_in w)) (start_from (start_in (runtime_in w)) (used_from (tables_in (runtime_in w)).capabilities from) good)
from-tried {w} {w' = w'} {axis = axis} {t} {falling} from good f a e l first second third back =
    let within : InBounds (on_axis t.axis falling) = record { axis = subst (λ (x : Trial). x.axis < 8) (sym e) (trial-within axis good); at = subst (λ (x : Falling). x.at < 8) (sym l) (falling-within w).at } in
    let put = becomes-then (with_falling (on_axis t.axis falling)) (becomes-then (with_waiting t.waiting) first second) (rw (back within) at third) in
    record {
      same = put.same;
      moves =
          λ o.
          subst (λ (h : Runtime). Moves h t.answer (start_from (start_in (runtime_in w)) (used_from (tables_in (runtime_in w)).capabilities from) good)) (sym put.stored)
          (rw (e, a, f, l) (tries-from (runtime_in w) o from good));
    }

pub next-tried : {w w' : List ℕ} {r : Answer} {falling : Falling} {starting : Starting} {good : Bool} (ok : Bool) → falling ≡ (runtime_in w).falling
    → starting ≡ (runtime_in w).starting → good ≡ (starting.good && ok)
    → Tried w w' r (Opened (runtime_in w)) (start_from (start_in (runtime_in w)) (used_from (tables_in (runtime_in w)).capabilities (falling.axis + 1)) good)
    → Tried w w' r (Tries (runtime_in w)) (react (trying_in (runtime_in w)) (Replies (FellBack ok)))
next-tried {w} {r = r} ok l s e m =
    record { same = m.same; moves = λ t. next-tries (runtime_in w) {r = r} ok ((rw (e, s, l) at m).moves t.opened) }

-- a reply ---------------------------------------------------------------------------------------------------------------------

module _ (w : List ℕ) {starting : Starting} (s : starting ≡ (runtime_in w).starting) where
  -- after the start
  started-steps : {w' : List ℕ} {r : Answer} (i : Input) → T (is_started (runtime_in w).starting.stage)
      → Turns w w' r (Good (runtime_in w)) (react (phase_of (state_in (runtime_in w))) i) → Steps w w' r i
  started-steps {w'} {r} i t m =
      record {
        same = m.goes.same;
        moves =
            λ k.
            let g = started-good (runtime_in w) k t in
            (started-turns (runtime_in w) (runtime_in w') r i t (record { moves = m.goes.moves g; unaltered = λ e. ap runtime_in (m.unaltered g e) })).moves;
        unaltered = λ k e. m.unaltered (started-good (runtime_in w) k t) e;
      }

  module _ {b : Bool} (test : b ≡ is_started starting.stage) where
    stage-so : b ≡ is_started (runtime_in w).starting.stage
    stage-so = rw s at test

    pub reply-steps : {w' : List ℕ} {r : Answer} (i : Input) → b ≡ true → Turns w w' r (Good (runtime_in w)) (react (phase_of (state_in (runtime_in w))) i) → Steps w w' r i
    reply-steps i t m = started-steps i (is-so (sym stage-so ∙ t)) m

    pub unheard-steps : {r : Answer} (y : Reply) → is_other y ≡ true → b ≡ false → r ≡ unheard_by starting.stage → Steps w w r (Replies y)
    unheard-steps y o t e =
        record {
          same = same-words;
          moves = λ k. rw (e, s) (unheard-turns (runtime_in w) y o k (is-not (sym stage-so ∙ t))).moves;
          unaltered = λ k q. refl;
        }

  -- of a fallback
  pub tried-steps : {w' : List ℕ} {r : Answer} (ok : Bool) → starting.stage ≡ Stage.Trying
      → Tried w w' r (Tries (runtime_in w)) (react (trying_in (runtime_in w)) (Replies (FellBack ok))) → Steps w w' r (Replies (FellBack ok))
  tried-steps {w'} {r} ok e m =
      let trying = rw s at e in
      let at : RuntimeSound (runtime_in w) → Moves (runtime_in w') r (react (trying_in (runtime_in w)) (Replies (FellBack ok))) = λ k. m.moves (trying-tries (runtime_in w) k trying) in
      record {
        same = m.same;
        moves = λ k. (tried-turns (runtime_in w) (runtime_in w') r ok trying (at k)).moves;
        unaltered = λ k q. absurd (tries-unturned (runtime_in w) ok trying (at k) q);
      }

  pub gone-steps : (y : Reply) → starting.stage ≡ Stage.Gone → Steps w w Answer.NoReplyAwaited (Replies y)
  gone-steps y e = record { same = same-words; moves = λ k. (gone-turns (runtime_in w) y k (rw s at e)).moves; unaltered = λ k q. refl }

  pub fell-steps : {w' : List ℕ} {r : Answer} (i : Input) → starting.stage ≡ Stage.Started
      → Turns w w' r (Good (runtime_in w)) (react (phase_of (state_in (runtime_in w))) i) → Steps w w' r i
  fell-steps i e m = started-steps i (is-started (runtime_in w) (rw s at e)) m

-- What a reply leaves: it is turned away and alters nothing, or it goes on. Assumes nothing.
use mathlib.Core.Bool.{Bool, true, false, false≢true}
use Rattle.std.specs.Prelude.{Some}
use mathlib.Core.Path.{◌≡◌, refl, sym, ap, subst, ◌∙◌}
use Rattle.model.specs.declared.Reason.TheVariants as Reason
use Rattle.rules.specs.Interaction.{Interaction, Submitted, Done, Observe, Execute, Fallback, Record}
use Rattle.rules.specs.Protocol as Protocol
use Rattle.rules.specs.Protocol.{Output, Started, StartRefused, Hands, Answers, Reminds, Refuses, Shows, NoRuntime, Reaction, Replies, proceed, react}
use Rattle.rules.specs.Rules.{complete, fail, trip}
use Rattle.state.specs.State.{State, progress_of, after_fallback, after_fell_back, output_of, phase_of, reaction_of, Sound, Moves}
use Rattle.state.specs.Stores.{awaiting}
use Rattle.state.specs.declared.Answer.{Answer}
use Rattle.state.specs.declared.Awaited.TheVariants as Awaited
use Rattle.state.specs.declared.Awaited.TheVariants.{ObserveAfter}
use Rattle.state.specs.declared.Progress.{Progress}
use Rattle.decide_reply.specs.declared.Observed.{Observed}
use Rattle.decide_reply.specs.declared.OnExecuted.{OnExecuted}
use Rattle.decide_reply.specs.declared.OnFellBack.{OnFellBack}
use Rattle.decide_reply.specs.declared.OnObserved.{OnObserved}
use Rattle.decide_reply.specs.declared.OnRecorded.{OnRecorded}
use Rattle.decide_reply.specs.Replies.{observation_in, over, executing, observing, seen_by, failed_by, reason_by, unexecuted_by, ObservesAs, ExecutesAs, FallsBackAs, RecordsAs}
use Rattle.runtime.specs.declared.Runtime.{Runtime}
use Rattle.runtime.specs.Promises.{Kept, Good, MovesIn, turns_away, TurnsIn}
use Rattle.runtime.specs.Runtimes.{tables_in, asked_in, order_in, hand_in, state_in, book_on}

-- the tables, what stands at the places that lead into them, and the start
abbrev pub SameTables : Runtime → Runtime → Type 0
SameTables h z =
    (z.fixed ≡ h.fixed) × (z.leases ≡ h.leases) × (z.active ≡ h.active) × (z.capabilities ≡ h.capabilities) × (z.replay ≡ h.replay)
    × (z.cursor ≡ h.cursor) × (z.places ≡ h.places) × (z.slots ≡ h.slots) × (z.slot ≡ h.slot) × (z.carrying.at ≡ h.carrying.at) × (z.starting ≡ h.starting)

pub kept_same : (h z : Runtime) → SameTables h z → Kept h → Kept z
kept_same h z e k =
    record {
      sized =
          record {
            leases = rw e.1 k.sized.leases;
            active = rw e.2 k.sized.active;
            capabilities = rw e.3 k.sized.capabilities;
            replay = rw e.4 k.sized.replay;
            rejected = rw e.6 k.sized.rejected;
            others = rw e.6 k.sized.others;
            slots = rw e.7 k.sized.slots;
            lease = rw e.1 k.sized.lease;
            order = rw e.2 k.sized.order;
          };
      placed =
          record {
            count = rw e.0 k.placed.count;
            slot = rw e.8 k.placed.slot;
            capability = rw e.9 k.placed.capability;
            replay = rw (e.4, e.5) k.placed.replay;
            receipts = rw (e.6, e.7) k.placed.receipts;
          };
    }

-- what goes on is not turned away
unfoldable pub is_away : Output → Bool
is_away Started = false
is_away (StartRefused n) = false
is_away (Hands item) = false
is_away (Answers a) = false
is_away (Reminds n item) = true
is_away (Refuses n) = true
is_away (Shows v) = false
is_away NoRuntime = true

goes : (i : Interaction) → is_away (proceed i).output ≡ false
unfolding is_away proceed
goes (Done b a) = refl
goes (Observe axis b k) = refl
goes (Execute c p b k) = refl
goes (Fallback axis reason b k) = refl
goes (Record r b k) = refl

pub away : (a : Answer) (s : State) → turns_away a ≡ true → is_away (output_of a s) ≡ true
unfolding is_away output_of
away Answer.Returned s e = absurd (false≢true e)
away Answer.Unraised s e = absurd (false≢true e)
away Answer.Raised s e = absurd (false≢true e)
away Answer.Succeeded s e = absurd (false≢true e)
away Answer.Leased s e = absurd (false≢true e)
away Answer.Refused s e = absurd (false≢true e)
away Answer.Submitted s e = absurd (false≢true e)
away Answer.Item s e = absurd (false≢true e)
away Answer.ReplyAwaited s e = refl
away Answer.OtherAwaited s e = refl
away Answer.NoReplyAwaited s e = refl
away Answer.NoRuntime s e = refl
away Answer.Started s e = absurd (false≢true e)
away Answer.InvalidBootId s e = absurd (false≢true e)
away Answer.InvalidConfig s e = absurd (false≢true e)
away Answer.InvalidCapability s e = absurd (false≢true e)
away Answer.DuplicateCapability s e = absurd (false≢true e)
away Answer.StartupFailed s e = absurd (false≢true e)

-- a reply that goes on
pub goes_on : {h z : Runtime} {r : Answer} {x : Reaction} (i : Interaction) → proceed i ≡ x → MovesIn z r (proceed i) → TurnsIn h z r x
unfolding reaction_of
goes_on {h} {z} {r} {x} i e m =
    record {
      moves = subst (λ (y : Reaction). MovesIn z r y) e m;
      unaltered = λ t. absurd (false≢true (sym (goes i) ∙ sym (ap (λ (y : Reaction). is_away y.output) m.reaction) ∙ away r (state_in z) t));
    }

-- one that is turned away
pub turns : {h : Runtime} {r : Answer} {x : Reaction} → Good h → reaction_of r (state_in h) ≡ x → TurnsIn h h r x
turns g e = record { moves = record { reaction = e; good = g }; unaltered = λ t. refl }

-- one that stores a place and nothing in the tables
pub moves-on : {h : Runtime} (z : Runtime) {s : State} (a : Answer) {x : Reaction} → turns_away a ≡ false → Good h → SameTables h z → state_in z ≡ s → Moves s a x
    → TurnsIn h z a x
moves-on {h} z a f g t e m =
    record {
      moves =
          record {
            reaction = ap (λ (y : State). reaction_of a y) e ∙ m.reaction;
            good = record { kept = kept_same h z t g.kept; sound = subst (λ (y : State). Sound y) (sym e) m.sound; started = rw t.10 g.started };
          };
      unaltered = λ k. absurd (false≢true (sym f ∙ k));
    }

-- the four replies ---------------------------------------------------------------------------------------------------------

module _ (h : Runtime) (good : Good h) where
  module _ (o : Observed) (k : OnObserved) (e : ObservesAs k (state_in h) o) where
    abbrev Seen : Reaction
    Seen = react (phase_of (state_in h)) (Replies (Protocol.Observed (observation_in o)))

    pub observed-none : k ≡ OnObserved.NoReply → TurnsIn h h Answer.NoReplyAwaited Seen
    unfolding ObservesAs
    observed-none p = turns good (rw p at e)

    pub observed-other : k ≡ OnObserved.Other → TurnsIn h h Answer.OtherAwaited Seen
    unfolding ObservesAs
    observed-other p = turns good (rw p at e)

    pub observed-executes : (z : Runtime) → k ≡ OnObserved.Executes → SameTables h z → state_in z ≡ executing o.observation.state (state_in h)
        → TurnsIn h z Answer.Item Seen
    unfolding ObservesAs
    observed-executes z p t q = moves-on z Answer.Item refl good t q (rw p at e)

    pub observed-last : k ≡ OnObserved.Completes → h.waiting.awaited ≡ ObserveAfter
    unfolding ObservesAs
    observed-last p = (rw p at e).0

    pub observed-completes : {z : Runtime} {r : Answer} → k ≡ OnObserved.Completes
        → MovesIn z r (proceed (complete (order_in h).capability h.carrying.end (seen_by h.carrying.pre_state h.submission.now (Some o.observation)) h.submission (book_on h)))
        → TurnsIn h z r Seen
    unfolding ObservesAs
    observed-completes p m = goes_on _ (rw p at e).1 m

    pub observed-fails : {z : Runtime} {r : Answer} (c : Progress) → k ≡ OnObserved.Fails
        → progress_of c ≡ failed_by h.waiting.awaited h.carrying.pre_state h.submission.now (observation_in o)
        → MovesIn z r (proceed (fail (order_in h).capability (reason_by (observation_in o)) (progress_of c) h.submission (book_on h)))
        → TurnsIn h z r Seen
    unfolding ObservesAs
    observed-fails c p q m = goes_on _ (rw q (rw p at e)) m

  module _ (ok : Bool) (k : OnExecuted) (e : ExecutesAs k (state_in h) ok) where
    abbrev Done-by : Reaction
    Done-by = react (phase_of (state_in h)) (Replies (Protocol.Executed ok))

    pub executed-none : k ≡ OnExecuted.NoReply → TurnsIn h h Answer.NoReplyAwaited Done-by
    unfolding ExecutesAs
    executed-none p = turns good (rw p at e)

    pub executed-other : k ≡ OnExecuted.Other → TurnsIn h h Answer.OtherAwaited Done-by
    unfolding ExecutesAs
    executed-other p = turns good (rw p at e)

    pub executed-observes : (z : Runtime) → k ≡ OnExecuted.Observes → SameTables h z → state_in z ≡ observing (state_in h) → TurnsIn h z Answer.Item Done-by
    unfolding ExecutesAs
    executed-observes z p t q = moves-on z Answer.Item refl good t q (rw p at e)

    pub executed-fails : {z : Runtime} {r : Answer} (c : Progress) → k ≡ OnExecuted.Fails → progress_of c ≡ unexecuted_by h.carrying.pre_state
        → MovesIn z r (proceed (fail (order_in h).capability Reason.Driver (progress_of c) h.submission (book_on h))) → TurnsIn h z r Done-by
    unfolding ExecutesAs
    executed-fails c p q m = goes_on _ (rw q (rw p at e)) m

  module _ (ok : Bool) (k : OnFellBack) (e : FallsBackAs k (state_in h) ok) where
    abbrev Told : Reaction
    Told = react (phase_of (state_in h)) (Replies (Protocol.FellBack ok))

    pub fell-back-none : k ≡ OnFellBack.NoReply → TurnsIn h h Answer.NoReplyAwaited Told
    unfolding FallsBackAs
    fell-back-none p = turns good (rw p at e)

    pub fell-back-other : k ≡ OnFellBack.Other → TurnsIn h h Answer.OtherAwaited Told
    unfolding FallsBackAs
    fell-back-other p = turns good (rw p at e)

    pub fell-back-tells : {z : Runtime} {r : Answer} → k ≡ OnFellBack.Tells
        → MovesIn z r (proceed (after_fell_back h.falling h.revoked (asked_in h) ok (book_on h))) → TurnsIn h z r Told
    unfolding FallsBackAs
    fell-back-tells p m = goes_on _ (rw p at e) m

  module _ (k : OnRecorded) (e : RecordsAs k (state_in h)) where
    abbrev Kept-by : Reaction
    Kept-by = react (phase_of (state_in h)) (Replies Protocol.Recorded)

    pub recorded-none : k ≡ OnRecorded.NoReply → TurnsIn h h Answer.NoReplyAwaited Kept-by
    unfolding RecordsAs
    recorded-none p = turns good (rw p at e)

    pub recorded-other : k ≡ OnRecorded.Other → TurnsIn h h Answer.OtherAwaited Kept-by
    unfolding RecordsAs
    recorded-other p = turns good (rw p at e)

    pub recorded-leased : (z : Runtime) → k ≡ OnRecorded.Leased → SameTables h z → state_in z ≡ over (awaiting Awaited.Nothing) (state_in h)
        → TurnsIn h z Answer.Leased Kept-by
    unfolding RecordsAs
    recorded-leased z p t q = moves-on z Answer.Leased refl good t q (rw p at e)

    pub recorded-submitted : (z : Runtime) → k ≡ OnRecorded.Submitted → SameTables h z
        → state_in z ≡ over (record { awaited = Awaited.Nothing; after_record = h.waiting.after_record }) (state_in h)
        → TurnsIn h z Answer.Submitted Kept-by
    unfolding RecordsAs
    recorded-submitted z p t q = moves-on z Answer.Submitted refl good t q (rw p at e)

    pub recorded-fails : {z : Runtime} {r : Answer} → k ≡ OnRecorded.Fails
        → MovesIn z r (proceed (trip (hand_in h).receipt.reason h.submission.now (book_on h) (λ b. Done b (Submitted (hand_in h).receipt)))) → TurnsIn h z r Kept-by
    unfolding RecordsAs
    recorded-fails p m = goes_on _ (rw p at e) m

    pub recorded-storms : {z : Runtime} {r : Answer} → k ≡ OnRecorded.Storms
        → MovesIn z r (proceed (trip Reason.InvalidStorm h.submission.now (book_on h) (λ b. Done b (Submitted (hand_in h).receipt)))) → TurnsIn h z r Kept-by
    unfolding RecordsAs
    recorded-storms p m = goes_on _ (rw p at e) m

    pub recorded-resumes : {z : Runtime} {r : Answer} → k ≡ OnRecorded.Resumes
        → MovesIn z r (proceed (after_fallback h.falling (tables_in h).capabilities (asked_in h) h.revoked.ok (book_on h))) → TurnsIn h z r Kept-by
    unfolding RecordsAs
    recorded-resumes p m = goes_on _ (rw p at e) m

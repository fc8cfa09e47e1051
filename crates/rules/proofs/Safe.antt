-- An invariant of log and book, along a whole tree: and one induction over histories, for every invariant at once. Assumes nothing.
use Prim.Native.Nat.{ℕ}
use mathlib.Core.Bool.{Bool, true, false}
use mathlib.Core.List.{List, [], ◌∷◌, ◌++◌, append-nil}
use Rattle.std.specs.Prelude.{Option, Some, None}
use Rattle.std.proofs.lemmas.Option.{none-some}
use Rattle.model.proofs.Options.{some-injective}
use mathlib.Core.Path.{◌≡◌, refl, subst}
use Rattle.model.specs.declared.Observation.{Observation}
use Rattle.rules.specs.Book.{Book}
use Rattle.rules.specs.Interaction.{Answer, Interaction, Done, Observe, Execute, Fallback, Record}
use Rattle.rules.specs.Rules.{used_axes}
use Rattle.rules.specs.Protocol.{Call, Reply, Observed, Executed, FellBack, Recorded, Input, Item, ItemObserve, ItemExecute, ItemFallback, ItemRecord, Start, Wait, OnObserve, OnExecute, OnFallback, OnRecord, Phase, Starting, Gone, Idle, Waiting, wait_book, book_in, opening, start_from, refused_start, start_unless, start, start_replied, replied, called, effect, apply, begin, proceed, react}
use Rattle.rules.specs.Log.{History, phase_after, Took, Replied, Handed, Ended, Log, handed, arrived, logged, log_of}
use Rattle.rules.specs.Way.{Takes, observed, executed, fell_back, recorded}
use Rattle.rules.proofs.Steps.{Stands, at_observe, at_execute, at_fallback, at_record, event_at, handed-event, effective, start-effective, Step, stays, tries, begins, answers, step}

-- `W` holds wherever the interaction waits, and `D` where it ends with an answer
abbrev pub Safe : (Log → Book → Type 0) → (Log → Book → Answer → Type 0) → Log → Interaction → Type 0
Safe W D l (Done b a) = D l b a
Safe W D l (Observe axis b k) =
    W (Handed (ItemObserve axis) ∷ l) b × ((o : Option Observation) → Safe W D (Replied (Observed o) ∷ (Handed (ItemObserve axis) ∷ l)) (k o))
Safe W D l (Execute c p b k) =
    W (Handed (ItemExecute c p) ∷ l) b × ((ok : Bool) → Safe W D (Replied (Executed ok) ∷ (Handed (ItemExecute c p) ∷ l)) (k ok))
Safe W D l (Fallback axis r b k) =
    W (Handed (ItemFallback axis r) ∷ l) b × ((ok : Bool) → Safe W D (Replied (FellBack ok) ∷ (Handed (ItemFallback axis r) ∷ l)) (k ok))
Safe W D l (Record r b k) = W (Handed (ItemRecord r) ∷ l) b × Safe W D (Replied Recorded ∷ (Handed (ItemRecord r) ∷ l)) k

-- the log of a start: startup fallbacks and their replies
abbrev pub Plain : Log → Type 0
Plain [] = Unit
Plain (Took c ∷ l) = ⊥
Plain (Replied r ∷ l) = Plain l
Plain (Handed (ItemObserve axis) ∷ l) = ⊥
Plain (Handed (ItemExecute c p) ∷ l) = ⊥
Plain (Handed (ItemFallback axis r) ∷ l) = Plain l
Plain (Handed (ItemRecord r) ∷ l) = ⊥
Plain (Ended a ∷ l) = ⊥

-- the rest of a call, for every reply
abbrev pub SafeWait : (Log → Book → Type 0) → (Log → Book → Answer → Type 0) → Log → Wait → Type 0
SafeWait W D l (OnObserve axis b k) = W l b × ((o : Option Observation) → Safe W D (Replied (Observed o) ∷ l) (k o))
SafeWait W D l (OnExecute c p b k) = W l b × ((ok : Bool) → Safe W D (Replied (Executed ok) ∷ l) (k ok))
SafeWait W D l (OnFallback axis r b k) = W l b × ((ok : Bool) → Safe W D (Replied (FellBack ok) ∷ l) (k ok))
SafeWait W D l (OnRecord r b k) = W l b × Safe W D (Replied Recorded ∷ l) k

-- `I` holds where the runtime is idle, `W` where it waits, and both along the rest of the call
abbrev pub SafePhase : Start → (Log → Book → Type 0) → (Log → Book → Type 0) → (Log → Book → Answer → Type 0) → Log → Phase → Type 0
SafePhase s I W D l (Starting own axis rest good) = (own ≡ s) × (Plain l × (refused_start s ≡ None))
SafePhase s I W D l Gone = Plain l
SafePhase s I W D l (Idle b) = I l b
SafePhase s I W D l (Waiting w) = SafeWait W D l w

pub at-wait : (W : Log → Book → Type 0) (D : Log → Book → Answer → Type 0) (l : Log) (w : Wait) → SafeWait W D l w → W l (wait_book w)
unfolding wait_book
at-wait W D l (OnObserve axis b k) h = h.0
at-wait W D l (OnExecute c p b k) h = h.0
at-wait W D l (OnFallback axis r b k) h = h.0
at-wait W D l (OnRecord r b k) h = h.0

-- what holds at the opening, and along every call, holds after every history
module _ (s : Start) (I W : Log → Book → Type 0) (D : Log → Book → Answer → Type 0)
    (ends : (l : Log) (b : Book) (a : Answer) → D l b a → I (Ended a ∷ l) b)
    (opens : (l : Log) → Plain l → refused_start s ≡ None → I l (opening s))
    (calls : (l : Log) (c : Call) (b : Book) → I l b → Safe W D (Took c ∷ l) (begin c b)) where
  enter : (l : Log) (t : Interaction) → Safe W D l t → SafePhase s I W D (event_at t ++ l) (proceed t).phase
  unfolding event_at proceed
  enter l (Done b a) h = ends l b a h
  enter l (Observe axis b k) h = h
  enter l (Execute c p b k) h = h
  enter l (Fallback axis r b k) h = h
  enter l (Record r b k) h = h

  answer : (p : Phase) (r : Reply) (x : Item) (t u : Interaction) (l : Log) → Stands t p → Takes t r x u → SafePhase s I W D l p → Safe W D (Replied r ∷ l) u
  answer p r x t u l at_observe (observed {o = o}) h = h.1 o
  answer p r x t u l at_execute (executed {ok = ok}) h = h.1 ok
  answer p r x t u l at_fallback (fell_back {ok = ok}) h = h.1 ok
  answer p r x t u l at_record recorded h = h.1

  start-on : (l : Log) (axes : List ℕ) (good : Bool) → Plain l → refused_start s ≡ None
      → SafePhase s I W D (handed (start_from s axes good).output ++ l) (start_from s axes good).phase
  unfolding start_from handed
  start-on l (axis ∷ rest) good h sound = (refl, (h, sound))
  start-on l [] true h sound = opens l h sound
  start-on l [] false h sound = h

  safe-step : (l : Log) (p : Phase) (i : Input) → Step p i → SafePhase s I W D l p
      → SafePhase s I W D (logged i (react p i).output l) (react p i).phase
  unfolding react apply effect called replied start_replied logged arrived
  safe-step l p i (stays st) h = rw (st.log l, st.phase) h
  safe-step l p i (tries own axis rest good ok) h =
      rw (h.0, start-effective s _ _) (start-on (Replied (FellBack ok) ∷ l) _ _ h.1.0 h.1.1)
  safe-step l p i (begins b c) h =
      rw (effective (begin c b), handed-event (begin c b)) (enter (Took c ∷ l) (begin c b) (calls l c b h))
  safe-step l p i (answers {r = r} t u a) h =
      rw (a.log l, a.reaction) (enter (Replied r ∷ l) u (answer p r a.item t u l a.stands a.takes h))

  pub always : (h : History) → SafePhase s I W D (log_of s h) (phase_after s h)
  unfolding log_of phase_after start start_unless handed
  always [] = go (refused_start s) refl
    where
      go : (r : Option ℕ) → refused_start s ≡ r → SafePhase s I W D (handed (start_unless r s).output) (start_unless r s).phase
      go (Some n) e = tt
      go None e = rw append-nil at (start-on [] (used_axes s.capabilities) true tt e)
  always (i ∷ past) = safe-step (log_of s past) (phase_after s past) i (step (phase_after s past) i) (always past)

-- the invariant at the book that a reading shows
pub shows : (s : Start) (I : Log → Book → Type 0) (D : Log → Book → Answer → Type 0) (l : Log) (p : Phase) (b : Book) → SafePhase s I I D l p
    → book_in p ≡ Some b → I l b
unfolding book_in
shows s I D l (Starting own axis rest good) b h e = absurd (none-some _ e)
shows s I D l Gone b h e = absurd (none-some _ e)
shows s I D l (Idle a) b h e = subst (λ x. I l x) (some-injective _ _ e) h
shows s I D l (Waiting w) b h e = subst (λ x. I l x) (some-injective _ _ e) (at-wait I D l w h)

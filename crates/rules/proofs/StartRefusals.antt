-- Which refusal a start meets, and that nothing comes of it; and that an input which is turned away alters nothing. Assumes nothing.
use Prim.Native.Nat.{ℕ}
use mathlib.Core.Bool.{Bool, true, false, cond, ◌&&◌, true≢false}
use mathlib.Core.List.{List, [], ◌∷◌, ◌++◌, append-nil, cons≢nil}
use mathlib.Core.Logic.{◌≢◌, ◌↔◌, ⊎_elim}
use Rattle.std.specs.Prelude.{Option, Some, None}
use Rattle.model.proofs.Options.{some-ne-none}
use mathlib.Core.Path.{◌≡◌, refl, sym, ap, ◌∙◌, subst}
use Rattle.rules.specs.Lists.{Mem}
use Rattle.rules.specs.Book.{Book}
use Rattle.rules.specs.Interaction.{Interaction, Done, Observe, Execute, Fallback, Record}
use Rattle.rules.specs.Rules.{used_axes}
use Rattle.rules.specs.Protocol.{Call, Reply, FellBack, Reading, Input, Calls, Replies, Reads, Output, StartRefused, Started, Hands, Answers, Reminds, Refuses, Shows, NoRuntime, Start, Phase, Gone, book_in, awaited_in, begin, proceed, refused_start, start_from, start_unless, start, start_replied, called, replied, shown, effect, apply, react}
use Rattle.rules.specs.Log.{History, phase_after, output_after, Event, Took, Replied, Log, handed, took_effect, arrived, logged, log_of, book_before, call_of, start_replies}
use Rattle.rules.specs.SoundStart.{SoundStart, StartFails}
use Rattle.rules.specs.Turns.{awaited}
use Rattle.rules.specs.Refusals.{StartupFailed, StartRefusals, Unaltered}
use Rattle.rules.proofs.Soundness.{sound-start, start-sound, start-fails, fails-start}
use Rattle.rules.proofs.Steps.{Stands, at_observe, at_execute, at_fallback, at_record, event_at, effective, start-effective, Stays, Step, stays, tries, begins, answers, step}
use Rattle.rules.proofs.Turns.{stands}
use Rattle.rules.proofs.Startup.{not_none, none-bad, Progress, progress, goes-on-so}

-- ---- an input that is turned away

-- one that leaves the log takes no effect
unlogged : (e : Event) (o : Output) → handed o ++ (cond (took_effect o) (e ∷ []) [] ++ []) ≡ [] → took_effect o ≡ false
unfolding handed took_effect
unlogged e Started q = absurd (cons≢nil q)
unlogged e (StartRefused n) q = absurd (cons≢nil q)
unlogged e (Hands item) q = absurd (cons≢nil q)
unlogged e (Answers a) q = absurd (cons≢nil q)
unlogged e (Reminds n item) q = refl
unlogged e (Refuses n) q = refl
unlogged e (Shows v) q = refl
unlogged e NoRuntime q = refl

reads_nothing : (q : Reading) (o : Option Book) → took_effect (shown q o) ≡ false
unfolding shown took_effect
reads_nothing q None = refl
reads_nothing q (Some b) = refl

pub stays-silent : (p : Phase) (i : Input) → Stays p i → took_effect (react p i).output ≡ false
unfolding react apply effect logged arrived
stays-silent p (Calls c) st = unlogged (Took c) _ (st.log [])
stays-silent p (Replies r) st = unlogged (Replied r) _ (st.log [])
stays-silent p (Reads q) st = reads_nothing q (book_in p)

-- and one that takes no effect leaves everything
silent-stays : (p : Phase) (i : Input) → Step p i → took_effect (react p i).output ≡ false → Stays p i
unfolding react apply effect called replied start_replied
silent-stays p i (stays st) e = st
silent-stays p i (tries own axis rest good ok) e = absurd (true≢false (sym (start-effective own _ _) ∙ e))
silent-stays p i (begins b c) e = absurd (true≢false (sym (effective (begin c b)) ∙ e))
silent-stays p i (answers t u a) e = absurd (true≢false (sym (effective u) ∙ (rw a.reaction at e)))

pub unaltered : (s : Start) (i : Input) (h : History) → took_effect (output_after s (i ∷ h)) ≡ false → Unaltered s i h
unfolding output_after phase_after log_of book_before
unaltered s i h e =
    let st = silent-stays (phase_after s h) i (step (phase_after s h) i) e in
    record { phase = st.phase; log = st.log (log_of s h); before = st.book _ _ }

-- ---- a start that was refused stays so

gone-stays : (i : Input) → ((react Gone i).phase ≡ Gone) × (took_effect (react Gone i).output ≡ false)
unfolding react apply effect called replied shown book_in took_effect
gone-stays (Calls c) = (refl, refl)
gone-stays (Replies r) = (refl, refl)
gone-stays (Reads q) = (refl, refl)

pub gone-later : (s : Start) (h : History) → phase_after s h ≡ Gone → (later : List Input) → phase_after s (later ++ h) ≡ Gone
unfolding phase_after
gone-later s h e [] = e
gone-later s h e (i ∷ later) = ap (λ (p : Phase). (react p i).phase) (gone-later s h e later) ∙ (gone-stays i).0

-- ---- the output that refuses a start

number-of : Output → ℕ
number-of Started = 0
number-of (StartRefused n) = n
number-of (Hands item) = 0
number-of (Answers a) = 0
number-of (Reminds n item) = 0
number-of (Refuses n) = 0
number-of (Shows v) = 0
number-of NoRuntime = 0

refused-same : {m n : ℕ} → StartRefused m ≡ StartRefused n → m ≡ n
unfolding number-of
refused-same e = ap number-of e

-- of the outputs, only these refuse a start
abbrev RefusesStart : Output → Type 0
RefusesStart Started = ⊥
RefusesStart (StartRefused n) = Unit
RefusesStart (Hands item) = ⊥
RefusesStart (Answers a) = ⊥
RefusesStart (Reminds n item) = ⊥
RefusesStart (Refuses n) = ⊥
RefusesStart (Shows v) = ⊥
RefusesStart NoRuntime = ⊥

no-refusal : (t : Interaction) → ¬ RefusesStart (proceed t).output
unfolding proceed
no-refusal (Done b a) r = r
no-refusal (Observe axis b k) r = r
no-refusal (Execute c p b k) r = r
no-refusal (Fallback axis q b k) r = r
no-refusal (Record q b k) r = r

-- the checks of a start
checked : (s : Start) (o : Option ℕ) → refused_start s ≡ o → (n : ℕ) → (start_unless o s).output ≡ StartRefused n → StartFails s n
unfolding start_unless start_from
checked s (Some m) q n e = subst (StartFails s) (refused-same e) (start-fails s m q)
checked s None q n e = go (used_axes s.capabilities) e
  where
    go : (axes : List ℕ) → (start_from s axes true).output ≡ StartRefused n → StartFails s n
    go [] e = absurd (subst RefusesStart (sym e) tt)
    go (axis ∷ axes) e = absurd (subst RefusesStart (sym e) tt)

which : (s : Start) (n : ℕ) → (output_after s [] ≡ StartRefused n) ↔ StartFails s n
unfolding output_after start start_unless
which s n = (λ e. checked s (refused_start s) refl n e, λ f. ap (λ (o : Option ℕ). (start_unless o s).output) (fails-start s n f))

-- where a start is refused at once, nothing was logged
at_once : (s : Start) (n : ℕ) → output_after s [] ≡ StartRefused n → (phase_after s [] ≡ Gone) × (log_of s [] ≡ [])
unfolding phase_after log_of start start_unless handed
at_once s n e =
    let q = fails-start s n ((which s n).0 e) in
    (ap (λ (o : Option ℕ). (start_unless o s).phase) q, ap (λ (o : Option ℕ). handed (start_unless o s).output) q)

no-driver : (s : Start) (n : ℕ) → output_after s [] ≡ StartRefused n → (h : History) → log_of s h ≡ []
unfolding output_after
no-driver s n e [] = (at_once s n e).1
no-driver s n e (i ∷ h) =
    let gone : phase_after s h ≡ Gone = rw append-nil at (gone-later s [] (at_once s n e).0 h) in
    (unaltered s i h (ap (λ (p : Phase). took_effect (react p i).output) gone ∙ (gone-stays i).1)).log ∙ no-driver s n e h

-- a later output that refuses is that of the start's last reply
last-reply : (p : Phase) (i : Input) → Step p i → (n : ℕ) → (react p i).output ≡ StartRefused n → (n ≡ 105) × ((react p i).phase ≡ Gone)
unfolding react apply effect called replied start_replied start_from took_effect
last-reply p i (stays st) n e = absurd (true≢false (sym (ap took_effect e) ∙ stays-silent p i st))
last-reply p i (tries own axis rest good ok) n e = go rest (good && ok) e
  where
    go : (rest : List ℕ) (good : Bool) → (start_from own rest good).output ≡ StartRefused n → (n ≡ 105) × ((start_from own rest good).phase ≡ Gone)
    go (x ∷ rest) good e = absurd (subst RefusesStart (sym e) tt)
    go [] true e = absurd (subst RefusesStart (sym e) tt)
    go [] false e = (sym (refused-same e), refl)
last-reply p i (begins b c) n e = absurd (no-refusal (begin c b) (subst RefusesStart (sym e) tt))
last-reply p i (answers t u a) n e = absurd (no-refusal u (subst RefusesStart (sym (rw a.reaction at e)) tt))

-- so it leaves no runtime
refused-gone : (s : Start) (h : History) (n : ℕ) → output_after s h ≡ StartRefused n → phase_after s h ≡ Gone
unfolding output_after phase_after
refused-gone s [] n e = (at_once s n e).0
refused-gone s (i ∷ h) n e = (last-reply (phase_after s h) i (step (phase_after s h) i) n e).1

-- a start that is refused by an input was sound
sound-before : (s : Start) (i : Input) (h : History) (n : ℕ) → output_after s (i ∷ h) ≡ StartRefused n → ¬ (¬ SoundStart s)
unfolding output_after took_effect
sound-before s i h n e unsound = go (refused_start s) refl
  where
    go : (o : Option ℕ) → refused_start s ≡ o → ⊥
    go None q = unsound (sound-start s q)
    go (Some m) q =
        let first : output_after s [] ≡ StartRefused m = (which s m).1 (start-fails s m q) in
        let gone : phase_after s h ≡ Gone = rw append-nil at (gone-later s [] (at_once s m first).0 h) in
        true≢false (sym (ap took_effect e) ∙ ap (λ (p : Phase). took_effect (react p i).output) gone ∙ (gone-stays i).1)

startup : (s : Start) (i : Input) (h : History) (n : ℕ) → output_after s (i ∷ h) ≡ StartRefused n → (n ≡ 105) × StartupFailed s (log_of s (i ∷ h))
unfolding output_after
startup s i h n e = (
  (last-reply (phase_after s h) i (step (phase_after s h) i) n e).0,
  ⊎_elim (λ u. absurd (sound-before s i h n e u)) (λ f. f)
      (subst (λ (p : Phase). Progress s (log_of s (i ∷ h)) p) (refused-gone s (i ∷ h) n e) (progress s (i ∷ h))),
)

-- ---- a start that goes on no more, after a failure

-- a call is in hand from its first item on
begun-call : (c : Call) (t : Interaction) (l : Log) → call_of (logged (Calls c) (proceed t).output l) ≢ None
unfolding logged arrived handed proceed took_effect call_of
begun-call c (Done b a) l e = some-ne-none _ e
begun-call c (Observe axis b k) l e = some-ne-none _ e
begun-call c (Execute d p b k) l e = some-ne-none _ e
begun-call c (Fallback axis r b k) l e = some-ne-none _ e
begun-call c (Record r b k) l e = some-ne-none _ e

-- and while it waits
in-hand : (s : Start) (l : Log) (t : Interaction) (p : Phase) → Stands t p → Progress s l p → call_of l ≢ None
in-hand s l t p at_observe g e = not_none l g.1 e
in-hand s l t p at_execute g e = not_none l g.1 e
in-hand s l t p at_fallback g e = not_none l g.1 e
in-hand s l t p at_record g e = not_none l g.1 e

waits-call : (s : Start) (l : Log) (t : Interaction) (p : Phase) (r : Reply) (u : Interaction) → Stands t p → Progress s l p
    → call_of (event_at u ++ (Replied r ∷ l)) ≢ None
unfolding event_at call_of
waits-call s l t p r (Done b a) st g e = in-hand s l t p st g e
waits-call s l t p r (Observe axis b k) st g e = in-hand s l t p st g e
waits-call s l t p r (Execute d q b k) st g e = in-hand s l t p st g e
waits-call s l t p r (Fallback axis q b k) st g e = in-hand s l t p st g e
waits-call s l t p r (Record q b k) st g e = in-hand s l t p st g e

refuses-last : (s : Start) (l : Log) (p : Phase) (i : Input) → Step p i → Progress s l p → took_effect (react p i).output ≡ true
    → call_of (logged i (react p i).output l) ≡ None → awaited_in (react p i).phase ≡ None
    → Progress s (logged i (react p i).output l) (react p i).phase → Mem (FellBack false) (start_replies (logged i (react p i).output l))
    → (react p i).output ≡ StartRefused 105
unfolding react apply effect called replied start_replied start_from
refuses-last s l p i (stays st) g took call idle next m = absurd (true≢false (sym took ∙ stays-silent p i st))
refuses-last s l p i (tries own axis rest good ok) g took call idle next m = go rest (good && ok) idle next m
  where
    go : (rest : List ℕ) (good : Bool) → awaited_in (start_from own rest good).phase ≡ None
        → Progress s (logged (Replies (FellBack ok)) (start_from own rest good).output l) (start_from own rest good).phase
        → Mem (FellBack false) (start_replies (logged (Replies (FellBack ok)) (start_from own rest good).output l))
        → (start_from own rest good).output ≡ StartRefused 105
    go (x ∷ rest) good idle next m = absurd (some-ne-none _ idle)
    go [] true idle next m = absurd (none-bad (used_axes s.capabilities) (subst (λ rs. Mem (FellBack false) rs) next.0.replies m))
    go [] false idle next m = refl
refuses-last s l p i (begins b c) g took call idle next m = absurd (begun-call c (begin c b) l call)
refuses-last s l p i (answers {r = r} t u a) g took call idle next m = absurd (waits-call s l t p r u a.stands g (rw (a.log l) at call))

-- before the first reply there is none
none-replied : (o : Output) → ¬ Mem (FellBack false) (start_replies (handed o))
unfolding handed start_replies
none-replied Started m = m
none-replied (StartRefused n) m = m
none-replied (Hands item) m = m
none-replied (Answers a) m = m
none-replied (Reminds n item) m = m
none-replied (Refuses n) m = m
none-replied (Shows v) m = m
none-replied NoRuntime m = m

refused : (s : Start) (h : History) → SoundStart s → took_effect (output_after s h) ≡ true → call_of (log_of s h) ≡ None → awaited (log_of s h) ≡ None
    → Mem (FellBack false) (start_replies (log_of s h)) → output_after s h ≡ StartRefused 105
unfolding output_after log_of phase_after
refused s [] sound took call idle m = absurd (none-replied (start s).output m)
refused s (i ∷ h) sound took call idle m =
    refuses-last s (log_of s h) (phase_after s h) i (step (phase_after s h) i) (progress s h) took call (sym (stands s (i ∷ h)) ∙ idle) (progress s (i ∷ h)) m

-- and it starts if none failed
starts-last : (s : Start) (l : Log) (p : Phase) (i : Input) → Step p i → Progress s l p → took_effect (react p i).output ≡ true
    → call_of (logged i (react p i).output l) ≡ None → awaited_in (react p i).phase ≡ None
    → Progress s (logged i (react p i).output l) (react p i).phase → SoundStart s
    → ¬ Mem (FellBack false) (start_replies (logged i (react p i).output l)) → (react p i).output ≡ Started
unfolding react apply effect called replied start_replied start_from
starts-last s l p i (stays st) g took call idle next sound m = absurd (true≢false (sym took ∙ stays-silent p i st))
starts-last s l p i (tries own axis rest good ok) g took call idle next sound m = go rest (good && ok) idle next m
  where
    go : (rest : List ℕ) (good : Bool) → awaited_in (start_from own rest good).phase ≡ None
        → Progress s (logged (Replies (FellBack ok)) (start_from own rest good).output l) (start_from own rest good).phase
        → ¬ Mem (FellBack false) (start_replies (logged (Replies (FellBack ok)) (start_from own rest good).output l))
        → (start_from own rest good).output ≡ Started
    go (x ∷ rest) good idle next m = absurd (some-ne-none _ idle)
    go [] true idle next m = refl
    go [] false idle next m = absurd (⊎_elim (λ n. n sound) (λ f. m f.failed) next)
starts-last s l p i (begins b c) g took call idle next sound m = absurd (begun-call c (begin c b) l call)
starts-last s l p i (answers {r = r} t u a) g took call idle next sound m =
    absurd (waits-call s l t p r u a.stands g (rw (a.log l) at call))

-- a sound start does not end at once
begins-so : (s : Start) (axes : List ℕ) → awaited (handed (start_from s axes true).output) ≡ None → (start_from s axes true).output ≡ Started
unfolding start_from handed awaited
begins-so s (axis ∷ axes) e = absurd (some-ne-none _ e)
begins-so s [] e = refl

started : (s : Start) (h : History) → SoundStart s → took_effect (output_after s h) ≡ true → call_of (log_of s h) ≡ None → awaited (log_of s h) ≡ None
    → ¬ Mem (FellBack false) (start_replies (log_of s h)) → output_after s h ≡ Started
unfolding output_after log_of phase_after start start_unless
started s [] sound took call idle m =
    let none-fails = start-sound s sound in
    ap (λ (o : Option ℕ). (start_unless o s).output) none-fails
    ∙ begins-so s (used_axes s.capabilities) (sym (ap (λ (o : Option ℕ). awaited (handed (start_unless o s).output)) none-fails) ∙ idle)
started s (i ∷ h) sound took call idle m =
    starts-last s (log_of s h) (phase_after s h) i (step (phase_after s h) i) (progress s h) took call (sym (stands s (i ∷ h)) ∙ idle) (progress s (i ∷ h)) sound m

pub start-refusals : (s : Start) → StartRefusals s
unfolding book_in
start-refusals s =
    record {
      which = which s;
      no-driver = no-driver s;
      goes_on = goes-on-so s;
      started = started s;
      startup = startup s;
      refused = refused s;
      no-runtime = λ h n e later. ap book_in (gone-later s h (refused-gone s h n e) later);
    }

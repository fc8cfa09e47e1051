-- Who is heard: `Turns` of every history. Assumes nothing.
use Prim.Native.Nat.{ℕ}
use mathlib.Core.Bool.{Bool, true, false, false≢true}
use mathlib.Core.List.{List, [], ◌∷◌, ◌++◌, append-nil}
use mathlib.Core.Logic.{inl, inr}
use Rattle.std.specs.Prelude.{Option, Some, None}
use Rattle.std.proofs.lemmas.Option.{none-some}
use Rattle.model.proofs.Options.{some-ne-none, some-injective}
use mathlib.Core.Path.{◌≡◌, refl, sym, ap, ◌∙◌, subst}
use Rattle.model.specs.declared.Reason.TheVariants.{Startup}
use Rattle.rules.specs.Book.{Book}
use Rattle.rules.specs.Interaction.{Interaction, Done, Observe, Execute, Fallback, Record}
use Rattle.rules.specs.Admission.{is_some}
use Rattle.rules.specs.Rules.{used_axes}
use Rattle.rules.specs.Protocol.{Call, Reply, Observed, Executed, FellBack, Recorded, Reading, Input, Calls, Replies, Reads, Item, ItemFallback, Output, Started, StartRefused, Hands, Answers, Reminds, Refuses, Shows, NoRuntime, Start, Wait, OnObserve, OnExecute, OnFallback, OnRecord, Phase, Starting, Gone, Idle, Waiting, item_of, book_in, awaited_in, resume, resumed, begin, proceed, refused_start, start_from, start_unless, start, start_replied, called, replied, shown, effect, apply, react}
use Rattle.rules.specs.Log.{History, phase_after, output_after, Event, Took, Replied, Log, log_of, handed, arrived, logged, took_effect, call_of}
use Rattle.rules.specs.Turns.{awaited, fits, Proceeds, Turns}
use Rattle.rules.proofs.Steps.{event_at, handed-event, effective, start-effective, after_try, Step, stays, tries, begins, answers, step}

-- ---- the newest event is where the runtime stands

proceeds : (t : Interaction) (l : Log) → awaited (event_at t ++ l) ≡ awaited_in (proceed t).phase
unfolding proceed event_at awaited item_of
proceeds (Done b a) l = refl
proceeds (Observe axis b k) l = refl
proceeds (Execute c p b k) l = refl
proceeds (Fallback axis r b k) l = refl
proceeds (Record r b k) l = refl

goes_on : (s : Start) (axes : List ℕ) (good : Bool) (l : Log) → awaited l ≡ None
    → awaited (handed (start_from s axes good).output ++ l) ≡ awaited_in (start_from s axes good).phase
unfolding start_from handed awaited
goes_on s (axis ∷ rest) good l e = refl
goes_on s [] true l e = e
goes_on s [] false l e = e

stands-step : (l : Log) (p : Phase) (i : Input) → Step p i → awaited l ≡ awaited_in p
    → awaited (logged i (react p i).output l) ≡ awaited_in (react p i).phase
unfolding react apply effect called replied start_replied logged arrived awaited
stands-step l p i (stays st) e = rw (st.log l, st.phase) e
stands-step l p i (tries own axis rest good ok) e =
    after_try (λ l p. awaited l ≡ awaited_in p) own _ _ ok l (goes_on own _ _ (Replied (FellBack ok) ∷ l) refl)
stands-step l p i (begins b c) e = rw (effective (begin c b), handed-event (begin c b)) (proceeds (begin c b) (Took c ∷ l))
stands-step l p i (answers {r = r} t u a) e = rw (a.log l, a.reaction) (proceeds u (Replied r ∷ l))

first-item : (s : Start) (axes : List ℕ) → awaited (handed (start_from s axes true).output) ≡ awaited_in (start_from s axes true).phase
unfolding start_from handed awaited
first-item s (axis ∷ rest) = refl
first-item s [] = refl

pub stands : (s : Start) (h : History) → awaited (log_of s h) ≡ awaited_in (phase_after s h)
unfolding log_of phase_after start start_unless awaited handed
stands s [] = go (refused_start s)
  where
    go : (r : Option ℕ) → awaited (handed (start_unless r s).output) ≡ awaited_in (start_unless r s).phase
    go (Some n) = refl
    go None = first-item s (used_axes s.capabilities)
stands s (i ∷ past) = stands-step (log_of s past) (phase_after s past) i (step (phase_after s past) i) (stands s past)

-- the newest event is what the newest output hands out
pub newest : (s : Start) (h : History) (e : Event) → handed (output_after s h) ≡ e ∷ [] → (l : Log) × (log_of s h ≡ e ∷ l)
unfolding output_after log_of logged
newest s [] e q = ([], q)
newest s (i ∷ past) e q =
    let l = arrived i (react (phase_after s past) i).output ++ log_of s past in
    (l, ap (λ (m : Log). m ++ l) q)

-- ---- a call, and a reading

-- what a call begins with, or goes on to
proceeds-out : (t : Interaction) → Proceeds (proceed t).output
unfolding proceed
proceeds-out (Done b a) = inr (a, refl)
proceeds-out (Observe axis b k) = inl (_, refl)
proceeds-out (Execute c p b k) = inl (_, refl)
proceeds-out (Fallback axis r b k) = inl (_, refl)
proceeds-out (Record r b k) = inl (_, refl)

call-taken : (p : Phase) (b : Book) → book_in p ≡ Some b → awaited_in p ≡ None → (c : Call) → Proceeds (react p (Calls c)).output
unfolding react apply effect called book_in
call-taken (Starting s axis rest good) b e n c = absurd (none-some b e)
call-taken Gone b e n c = absurd (none-some b e)
call-taken (Idle a) b e n c = proceeds-out (begin c a)
call-taken (Waiting w) b e n c = absurd (some-ne-none _ n)

call-unmet : (p : Phase) → book_in p ≡ None → awaited_in p ≡ None → (c : Call) → (react p (Calls c)).output ≡ NoRuntime
unfolding react apply effect called book_in
call-unmet (Starting s axis rest good) e n c = absurd (some-ne-none _ n)
call-unmet Gone e n c = refl
call-unmet (Idle b) e n c = absurd (some-ne-none _ e)
call-unmet (Waiting w) e n c = absurd (some-ne-none _ e)

call-waits : (p : Phase) (i : Item) → awaited_in p ≡ Some i → (c : Call) → (react p (Calls c)).output ≡ Reminds 111 i
unfolding react apply effect called
call-waits (Starting s axis rest good) i e c = ap (Reminds 111) (some-injective _ _ e)
call-waits Gone i e c = absurd (none-some i e)
call-waits (Idle b) i e c = absurd (none-some i e)
call-waits (Waiting w) i e c = ap (Reminds 111) (some-injective _ _ e)

reads : (p : Phase) (o : Option Book) → book_in p ≡ o → (q : Reading) → (react p (Reads q)).output ≡ shown q o
unfolding react apply effect
reads p o e q = rw e

-- ---- a reply

-- it is taken exactly if it is of the awaited kind
resumes : (w : Wait) (r : Reply) → fits (item_of w) r ≡ is_some (resume w r)
unfolding fits item_of resume is_some
resumes (OnObserve axis b k) (Observed o) = refl
resumes (OnObserve axis b k) (Executed ok) = refl
resumes (OnObserve axis b k) (FellBack ok) = refl
resumes (OnObserve axis b k) Recorded = refl
resumes (OnExecute c p b k) (Observed o) = refl
resumes (OnExecute c p b k) (Executed ok) = refl
resumes (OnExecute c p b k) (FellBack ok) = refl
resumes (OnExecute c p b k) Recorded = refl
resumes (OnFallback axis q b k) (Observed o) = refl
resumes (OnFallback axis q b k) (Executed ok) = refl
resumes (OnFallback axis q b k) (FellBack ok) = refl
resumes (OnFallback axis q b k) Recorded = refl
resumes (OnRecord q b k) (Observed o) = refl
resumes (OnRecord q b k) (Executed ok) = refl
resumes (OnRecord q b k) (FellBack ok) = refl
resumes (OnRecord q b k) Recorded = refl

-- what comes of a reply where this item is awaited: it takes effect, or the item comes again with 113
abbrev Heard : Bool → Item → Output → Type 0
Heard true i out = took_effect out ≡ true
Heard false i out = out ≡ Reminds 113 i

heard-wait : (w : Wait) (r : Reply) → Heard (fits (item_of w) r) (item_of w) (react (Waiting w) (Replies r)).output
unfolding react apply effect replied resumed is_some
heard-wait w r = rw (resumes w r) (go (resume w r))
  where
    go : (o : Option Interaction) → Heard (is_some o) (item_of w) (apply (Waiting w) (resumed o (item_of w))).output
    go None = refl
    go (Some t) = effective t

heard-start : (s : Start) (axis : ℕ) (rest : List ℕ) (good : Bool) (r : Reply)
    → Heard (fits (ItemFallback axis Startup) r) (ItemFallback axis Startup) (react (Starting s axis rest good) (Replies r)).output
unfolding react apply effect replied start_replied fits
heard-start s axis rest good (FellBack ok) = start-effective s _ _
heard-start s axis rest good (Observed o) = refl
heard-start s axis rest good (Executed ok) = refl
heard-start s axis rest good Recorded = refl

heard : (p : Phase) (i : Item) → awaited_in p ≡ Some i → (r : Reply) → Heard (fits i r) i (react p (Replies r)).output
heard Gone i e r = absurd (none-some i e)
heard (Idle b) i e r = absurd (none-some i e)
heard (Starting s axis rest good) i e r =
    subst (λ (x : Item). Heard (fits x r) x (react (Starting s axis rest good) (Replies r)).output) (some-injective _ _ e)
    (heard-start s axis rest good r)
heard (Waiting w) i e r =
    subst (λ (x : Item). Heard (fits x r) x (react (Waiting w) (Replies r)).output) (some-injective _ _ e) (heard-wait w r)

-- while a call is in hand it goes on
goes-on-from : (w : Wait) (r : Reply) → fits (item_of w) r ≡ true → Proceeds (react (Waiting w) (Replies r)).output
unfolding react apply effect replied resumed is_some
goes-on-from w r f = go (resume w r) (sym (resumes w r) ∙ f)
  where
    go : (o : Option Interaction) → is_some o ≡ true → Proceeds (apply (Waiting w) (resumed o (item_of w))).output
    go None e = absurd (false≢true e)
    go (Some t) e = proceeds-out t

-- before the first call the start goes on, or has ended
abbrev BeforeCall : Phase → Option Call → Type 0
BeforeCall (Starting s axis rest good) c = c ≡ None
BeforeCall Gone c = c ≡ None
BeforeCall (Idle b) c = Unit
BeforeCall (Waiting w) c = Unit

proceeds-reply : (p : Phase) (i : Item) → awaited_in p ≡ Some i → (c : Call) → BeforeCall p (Some c) → (r : Reply) → fits i r ≡ true
    → Proceeds (react p (Replies r)).output
proceeds-reply Gone i e c k r f = absurd (none-some i e)
proceeds-reply (Idle b) i e c k r f = absurd (none-some i e)
proceeds-reply (Starting s axis rest good) i e c k r f = absurd (some-ne-none _ k)
proceeds-reply (Waiting w) i e c k r f = goes-on-from w r (subst (λ (x : Item). fits x r ≡ true) (sym (some-injective _ _ e)) f)

reply-none : (p : Phase) → awaited_in p ≡ None → (r : Reply) → (react p (Replies r)).output ≡ Refuses 112
unfolding react apply effect replied
reply-none (Starting s axis rest good) e r = absurd (some-ne-none _ e)
reply-none Gone e r = refl
reply-none (Idle b) e r = refl
reply-none (Waiting w) e r = absurd (some-ne-none _ e)

-- a call in hand shows that the start is over
calls-none : (out : Output) (l : Log) → call_of l ≡ None → call_of (handed out ++ l) ≡ None
unfolding handed call_of
calls-none Started l e = e
calls-none (StartRefused n) l e = e
calls-none (Hands item) l e = e
calls-none (Answers a) l e = e
calls-none (Reminds n item) l e = e
calls-none (Refuses n) l e = e
calls-none (Shows v) l e = e
calls-none NoRuntime l e = e

starts-on : (s : Start) (axes : List ℕ) (good : Bool) (l : Log) → call_of l ≡ None
    → BeforeCall (start_from s axes good).phase (call_of (handed (start_from s axes good).output ++ l))
unfolding start_from
starts-on s (axis ∷ rest) good l e = calls-none _ l e
starts-on s [] true l e = tt
starts-on s [] false l e = calls-none _ l e

called_on : (t : Interaction) (c : Option Call) → BeforeCall (proceed t).phase c
unfolding proceed
called_on (Done b a) c = tt
called_on (Observe axis b k) c = tt
called_on (Execute d p b k) c = tt
called_on (Fallback axis r b k) c = tt
called_on (Record r b k) c = tt

before-step : (l : Log) (p : Phase) (i : Input) → Step p i → BeforeCall p (call_of l) → BeforeCall (react p i).phase (call_of (logged i (react p i).output l))
unfolding react apply effect called replied start_replied logged arrived call_of
before-step l p i (stays st) h = rw (st.log l, st.phase) h
before-step l p i (tries own axis rest good ok) h =
    after_try (λ l p. BeforeCall p (call_of l)) own _ _ ok l (starts-on own _ _ (Replied (FellBack ok) ∷ l) h)
before-step l p i (begins b c) h = called_on (begin c b) (call_of (logged i (proceed (begin c b)).output l))
before-step l p i (answers t u a) h = rw a.reaction (called_on u (call_of (logged i (proceed u).output l)))

before-call : (s : Start) (h : History) → BeforeCall (phase_after s h) (call_of (log_of s h))
unfolding log_of phase_after start start_unless handed call_of
before-call s [] = go (refused_start s)
  where
    go : (r : Option ℕ) → BeforeCall (start_unless r s).phase (call_of (handed (start_unless r s).output))
    go (Some n) = refl
    go None = rw append-nil at (starts-on s (used_axes s.capabilities) true [] refl)
before-call s (i ∷ past) = before-step (log_of s past) (phase_after s past) i (step (phase_after s past) i) (before-call s past)

-- ---- every history

pub turns : (s : Start) (h : History) → Turns s h
unfolding output_after shown
turns s h =
    record {
      call-taken = λ b e n. call-taken p b e (at n);
      call-unmet = λ e n. call-unmet p e (at n);
      call-waits = λ i e. call-waits p i (at e);
      reply-taken = λ i e r f. subst (λ t. Heard t i (react p (Replies r)).output) f (heard p i (at e) r);
      reply-proceeds = λ i e c call r f. proceeds-reply p i (at e) c (subst (BeforeCall p) call (before-call s h)) r f;
      reply-other = λ i e r f. subst (λ t. Heard t i (react p (Replies r)).output) f (heard p i (at e) r);
      reply-none = λ e. reply-none p (at e);
      reading = λ b e q. reads p (Some b) e q;
      no-reading = λ e q. reads p None e q;
    }
  where
    p : Phase
    p = phase_after s h

    at : {o : Option Item} → awaited (log_of s h) ≡ o → awaited_in p ≡ o
    at e = sym (stands s h) ∙ e

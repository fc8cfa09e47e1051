-- The numbers of the receipts that answer orders rise: each is that of a record handed out in its own call, and those count up. Assumes nothing.
use Prim.Native.Nat.{ℕ, ◌+◌, ◌<◌, ◌≤◌}
use mathlib.Core.Bool.{Bool, true, false, cond, false≢true, true≢false}
use mathlib.Core.List.{List, [], ◌∷◌, ◌++◌, append-nil}
use mathlib.Core.Logic.{◌⊎◌, inl, inr, ⊎_elim}
use Rattle.std.specs.Prelude.{Option, Some, None}
use mathlib.Core.Path.{◌≡◌, refl, sym, ap, ◌∙◌, subst}
use native.Mathlib.Omega.{arith}
use Rattle.model.specs.declared.Receipt.{Receipt}
use Rattle.rules.specs.Lists.{Mem}
use Rattle.rules.specs.Receipts.{top, bump}
use Rattle.rules.specs.Interaction.{Answer, Returned, Polled, Succeeded, Leased, Refused, Submitted, Interaction, Done, Observe, Execute, Fallback, Record}
use Rattle.rules.specs.Rules.{used_axes}
use Rattle.rules.specs.Protocol.{FellBack, Input, Calls, Replies, Reads, ItemObserve, ItemExecute, ItemFallback, ItemRecord, Output, Started, StartRefused, Hands, Answers, Reminds, Refuses, Shows, NoRuntime, Start, Phase, Starting, Gone, Idle, Waiting, begin, proceed, refused_start, start_from, start_unless, start, start_replied, called, replied, effect, apply, react}
use Rattle.rules.specs.Log.{History, phase_after, output_after, Event, Took, Replied, Handed, Ended, Log, handed, took_effect, arrived, logged, log_of, Exchange, with_reply, with_item, current, counted, next_number}
use Rattle.rules.specs.AnswerFacts.{answered_receipts, Falling}
use Rattle.rules.proofs.Counters.{bump-up, bump-below}
use Rattle.rules.proofs.Steps.{Stands, at_observe, at_execute, at_fallback, at_record, event_at, handed-event, effective, after_try, Step, stays, tries, begins, answers, step}
use Rattle.rules.proofs.StartRefusals.{stays-silent}
use Rattle.rules.proofs.InHand.{items_in, reply-items, new-or-before}
use Rattle.rules.proofs.Once.{records}
use Rattle.rules.proofs.Answered.{order-answered}

-- ---- of a log

-- the records handed out since the last call was taken
since_call : Log → List Receipt
since_call [] = []
since_call (Took c ∷ l) = []
since_call (Replied r ∷ l) = since_call l
since_call (Handed (ItemObserve axis) ∷ l) = since_call l
since_call (Handed (ItemExecute c p) ∷ l) = since_call l
since_call (Handed (ItemFallback axis r) ∷ l) = since_call l
since_call (Handed (ItemRecord r) ∷ l) = r ∷ since_call l
since_call (Ended a ∷ l) = since_call l

-- the next number as the last call was taken
number_before : Log → ℕ
number_before [] = 1
number_before (Took c ∷ l) = next_number l
number_before (Replied r ∷ l) = number_before l
number_before (Handed i ∷ l) = number_before l
number_before (Ended a ∷ l) = number_before l

-- a call was taken and has not ended
abbrev Open : Log → Type 0
Open [] = ⊥
Open (Took c ∷ l) = Unit
Open (Replied r ∷ l) = Open l
Open (Handed i ∷ l) = Open l
Open (Ended a ∷ l) = ⊥

-- what the newest event says: a record has the next number, and an order ends with a record of its own call
abbrev Fair : Event → Log → Type 0
Fair (Took c) l = Unit
Fair (Replied r) l = Unit
Fair (Handed (ItemObserve axis)) l = Unit
Fair (Handed (ItemExecute c p)) l = Unit
Fair (Handed (ItemFallback axis r)) l = Unit
Fair (Handed (ItemRecord r)) l = r.receipt_id ≡ next_number l
Fair (Ended Returned) l = Unit
Fair (Ended (Polled new)) l = Unit
Fair (Ended Succeeded) l = Unit
Fair (Ended (Leased x)) l = Unit
Fair (Ended (Refused reason)) l = Unit
Fair (Ended (Submitted r)) l = Open l × Mem r (since_call l)

abbrev AllFair : Log → Type 0
AllFair [] = Unit
AllFair (e ∷ l) = Fair e l × AllFair l

falling-from : (m n : ℕ) (rs : List Receipt) → m ≤ n → Falling m rs → Falling n rs
falling-from m n [] h f = tt
falling-from m n (r ∷ rs) h f = (omega (arith, f.0), f.1)

-- while the next number is below the top
record Counts (l : Log) : Type 0 where
  fall : Falling (next_number l) (answered_receipts l)
  before : number_before l ≤ next_number l
  own : Open l → Falling (number_before l) (answered_receipts l)
  mine : (r : Receipt) → Mem r (since_call l) → (number_before l ≤ r.receipt_id) × (r.receipt_id < next_number l)

-- an event that neither counts nor is counted
same-counts : (e : Event) (l : Log) → next_number (e ∷ l) ≡ next_number l → number_before (e ∷ l) ≡ number_before l
    → answered_receipts (e ∷ l) ≡ answered_receipts l → since_call (e ∷ l) ≡ since_call l → (Open (e ∷ l) → Open l) → Counts l → Counts (e ∷ l)
same-counts e l n m a c o k =
    record {
      fall = rw (n, a) k.fall;
      before = rw (n, m) k.before;
      own = λ h. rw (m, a) (k.own (o h));
      mine = λ r i. rw (n, m) (k.mine r (rw c at i));
    }

counts : (l : Log) → AllFair l → next_number l < top → Counts l
unfolding next_number counted number_before answered_receipts since_call
counts [] f h = record { fall = tt; before = omega arith; own = λ o. absurd o; mine = λ r m. absurd m }
counts (Took c ∷ l) f h =
    let k = counts l f.1 h in
    record { fall = k.fall; before = omega arith; own = λ o. k.fall; mine = λ r m. absurd m }
counts (Replied r ∷ l) f h = same-counts (Replied r) l refl refl refl refl (λ o. o) (counts l f.1 h)
counts (Handed (ItemObserve axis) ∷ l) f h = same-counts _ l refl refl refl refl (λ o. o) (counts l f.1 h)
counts (Handed (ItemExecute c p) ∷ l) f h = same-counts _ l refl refl refl refl (λ o. o) (counts l f.1 h)
counts (Handed (ItemFallback axis r) ∷ l) f h = same-counts _ l refl refl refl refl (λ o. o) (counts l f.1 h)
counts (Handed (ItemRecord r) ∷ l) f h =
    let room : next_number l < top = omega (arith, bump-up (next_number l)) in
    let k = counts l f.1 room in
    let more : bump (next_number l) ≡ next_number l + 1 = bump-below (next_number l) room in
    record {
      fall = falling-from (next_number l) (bump (next_number l)) (answered_receipts l) (omega (arith, more)) k.fall;
      before = omega (arith, more, k.before);
      own = k.own;
      mine = λ q m. one q m more k f.0;
    }
  where
    one : (q : Receipt) → (q ≡ r) ⊎ Mem q (since_call l) → bump (next_number l) ≡ next_number l + 1 → Counts l → r.receipt_id ≡ next_number l
        → (number_before l ≤ q.receipt_id) × (q.receipt_id < bump (next_number l))
    one q (inl e) more k n =
        let id : q.receipt_id ≡ next_number l = ap (λ (x : Receipt). x.receipt_id) e ∙ n in
        (omega (arith, id, k.before), omega (arith, id, more))
    one q (inr m) more k n = let c = k.mine q m in (c.0, omega (arith, c.1, more))
counts (Ended Returned ∷ l) f h = same-counts _ l refl refl refl refl (λ o. absurd o) (counts l f.1 h)
counts (Ended (Polled new) ∷ l) f h = same-counts _ l refl refl refl refl (λ o. absurd o) (counts l f.1 h)
counts (Ended Succeeded ∷ l) f h = same-counts _ l refl refl refl refl (λ o. absurd o) (counts l f.1 h)
counts (Ended (Leased x) ∷ l) f h = same-counts _ l refl refl refl refl (λ o. absurd o) (counts l f.1 h)
counts (Ended (Refused reason) ∷ l) f h = same-counts _ l refl refl refl refl (λ o. absurd o) (counts l f.1 h)
counts (Ended (Submitted r) ∷ l) f h =
    let k = counts l f.1 h in
    let c = k.mine r f.0.1 in
    record {
      fall = (c.1, falling-from (number_before l) r.receipt_id (answered_receipts l) c.0 (k.own f.0.0));
      before = k.before;
      own = λ o. absurd o;
      mine = k.mine;
    }

-- ---- of a history

-- a call is in hand while the runtime waits
abbrev Standing : Log → Phase → Type 0
Standing l (Starting s axis rest good) = Unit
Standing l Gone = Unit
Standing l (Idle b) = Unit
Standing l (Waiting w) = Open l

stands_on : (t : Interaction) (l : Log) → Open l → Standing (event_at t ++ l) (proceed t).phase
unfolding event_at proceed
stands_on (Done b a) l o = tt
stands_on (Observe axis b k) l o = o
stands_on (Execute c p b k) l o = o
stands_on (Fallback axis r b k) l o = o
stands_on (Record r b k) l o = o

waits-open : (l : Log) (t : Interaction) (p : Phase) → Stands t p → Standing l p → Open l
waits-open l t p at_observe o = o
waits-open l t p at_execute o = o
waits-open l t p at_fallback o = o
waits-open l t p at_record o = o

start-on : (s : Start) (axes : List ℕ) (good : Bool) (l : Log) → Standing (handed (start_from s axes good).output ++ l) (start_from s axes good).phase
unfolding start_from
start-on s (axis ∷ axes) good l = tt
start-on s [] true l = tt
start-on s [] false l = tt

standing-step : (l : Log) (p : Phase) (i : Input) → Step p i → Standing l p → Standing (logged i (react p i).output l) (react p i).phase
unfolding react apply effect called replied start_replied logged arrived
standing-step l p i (stays st) o = rw (st.log l, st.phase) o
standing-step l p i (tries own axis rest good ok) o = after_try Standing own _ _ ok l (start-on own _ _ (Replied (FellBack ok) ∷ l))
standing-step l p i (begins b c) o = rw (effective (begin c b), handed-event (begin c b)) (stands_on (begin c b) (Took c ∷ l) tt)
standing-step l p i (answers {r = r} t u a) o = rw (a.log l, a.reaction) (stands_on u (Replied r ∷ l) (waits-open l t p a.stands o))

standing : (s : Start) (h : History) → Standing (log_of s h) (phase_after s h)
unfolding log_of phase_after start start_unless
standing s [] = go (refused_start s)
  where
    go : (o : Option ℕ) → Standing (handed (start_unless o s).output) (start_unless o s).phase
    go (Some n) = tt
    go None = rw append-nil at (start-on s (used_axes s.capabilities) true [])
standing s (i ∷ h) = standing-step (log_of s h) (phase_after s h) i (step (phase_after s h) i) (standing s h)

-- a start answers no call
abbrev IsAnswer : Output → Type 0
IsAnswer Started = ⊥
IsAnswer (StartRefused n) = ⊥
IsAnswer (Hands item) = ⊥
IsAnswer (Answers a) = Unit
IsAnswer (Reminds n item) = ⊥
IsAnswer (Refuses n) = ⊥
IsAnswer (Shows v) = ⊥
IsAnswer NoRuntime = ⊥

no_answer : (s : Start) (axes : List ℕ) (good : Bool) (a : Answer) → (start_from s axes good).output ≡ Answers a → ⊥
unfolding start_from
no_answer s (axis ∷ axes) good a e = subst IsAnswer (sym e) tt
no_answer s [] true a e = subst IsAnswer (sym e) tt
no_answer s [] false a e = subst IsAnswer (sym e) tt

start-answers : (s : Start) (a : Answer) → (start s).output ≡ Answers a → ⊥
unfolding start start_unless
start-answers s a e = go (refused_start s) e
  where
    go : (o : Option ℕ) → (start_unless o s).output ≡ Answers a → ⊥
    go (Some n) e = subst IsAnswer (sym e) tt
    go None e = no_answer s (used_axes s.capabilities) true a e

-- an answer ends a call in hand
ends_open : (l : Log) (p : Phase) (i : Input) → Step p i → Standing l p → (a : Answer) → (react p i).output ≡ Answers a
    → Open (arrived i (react p i).output ++ l)
unfolding react apply effect called replied start_replied arrived took_effect
ends_open l p i (stays st) o a e = absurd (true≢false (sym (ap took_effect e) ∙ stays-silent p i st))
ends_open l p i (tries own axis rest good ok) o a e = absurd (no_answer own _ _ a e)
ends_open l p i (begins b c) o a e = rw (effective (begin c b)) tt
ends_open l p i (answers {r = r} t u x) o a e = rw (x.reaction, effective u) (waits-open l t p x.stands o)

fair-if : (t : Bool) (e : Event) (l : Log) → Fair e l → AllFair l → AllFair (cond t (e ∷ []) [] ++ l)
fair-if true e l f a = (f, a)
fair-if false e l f a = a

fair-arrived : (i : Input) (out : Output) (l : Log) → AllFair l → AllFair (arrived i out ++ l)
unfolding arrived
fair-arrived (Calls c) out l f = fair-if (took_effect out) (Took c) l tt f
fair-arrived (Replies r) out l f = fair-if (took_effect out) (Replied r) l tt f
fair-arrived (Reads q) out l f = f

tail-same : {e : Event} {l m : Log} → e ∷ l ≡ e ∷ m → l ≡ m
tail-same q = cc

-- the items of the call in hand
since-item : (r : Receipt) (l : Log) → Mem (ItemRecord r) (items_in (current l)) → Mem r (since_call l)
unfolding current items_in since_call
since-item r [] m = m
since-item r (Took c ∷ l) m = m
since-item r (Replied q ∷ l) m = since-item r l (rw (reply-items q (current l)) at m)
since-item r (Handed (ItemObserve axis) ∷ l) m = ⊎_elim (λ e. absurd (false≢true (cc))) (since-item r l) (new-or-before _ _ (current l) m)
since-item r (Handed (ItemExecute c p) ∷ l) m = ⊎_elim (λ e. absurd (false≢true (cc))) (since-item r l) (new-or-before _ _ (current l) m)
since-item r (Handed (ItemFallback axis q) ∷ l) m = ⊎_elim (λ e. absurd (false≢true (cc))) (since-item r l) (new-or-before _ _ (current l) m)
since-item r (Handed (ItemRecord q) ∷ l) m = ⊎_elim (λ e. inl (cc)) (λ k. inr (since-item r l k)) (new-or-before _ _ (current l) m)
since-item r (Ended a ∷ l) m = since-item r l m

open-call : (l : Log) → Open l → (x : Exchange) × (current l ≡ Some x)
unfolding current with_reply with_item
open-call [] o = absurd o
open-call (Took c ∷ l) o = (_, refl)
open-call (Replied r ∷ l) o = let k = open-call l o in (_, ap (with_reply r) k.1)
open-call (Handed i ∷ l) o = let k = open-call l o in (_, ap (with_item i) k.1)
open-call (Ended a ∷ l) o = absurd o

module _ (s : Start) where
  fair-handed : (h : History) (out : Output) (l : Log) → output_after s h ≡ out → log_of s h ≡ handed out ++ l → AllFair l
      → ((a : Answer) → out ≡ Answers a → Open l) → AllFair (handed out ++ l)
  unfolding handed current items_in
  fair-handed h Started l e q f o = f
  fair-handed h (StartRefused n) l e q f o = f
  fair-handed h (Reminds n item) l e q f o = f
  fair-handed h (Refuses n) l e q f o = f
  fair-handed h (Shows v) l e q f o = f
  fair-handed h NoRuntime l e q f o = f
  fair-handed h (Hands (ItemObserve axis)) l e q f o = (tt, f)
  fair-handed h (Hands (ItemExecute c p)) l e q f o = (tt, f)
  fair-handed h (Hands (ItemFallback axis r)) l e q f o = (tt, f)
  fair-handed h (Hands (ItemRecord r)) l e q f o =
      let k = records s h r e in
      let same : k.0 ≡ l = tail-same (sym k.1 ∙ q) in
      (k.2.numbered ∙ ap next_number same, f)
  fair-handed h (Answers Returned) l e q f o = (tt, f)
  fair-handed h (Answers (Polled new)) l e q f o = (tt, f)
  fair-handed h (Answers Succeeded) l e q f o = (tt, f)
  fair-handed h (Answers (Leased x)) l e q f o = (tt, f)
  fair-handed h (Answers (Refused reason)) l e q f o = (tt, f)
  fair-handed h (Answers (Submitted r)) l e q f o =
      let hand = o (Submitted r) refl in
      let x = open-call l hand in
      let k = order-answered s h x.0 r e (ap current q ∙ x.1) in
      ((hand, since-item r l (subst (λ c. Mem (ItemRecord r) (items_in c)) (sym x.1) k.handed)), f)

  fair : (h : History) → AllFair (log_of s h)
  unfolding log_of logged output_after
  fair [] =
      let same = append-nil (handed (start s).output) in
      subst AllFair same (fair-handed [] (start s).output [] refl (sym same) tt (λ a e. absurd (start-answers s a e)))
  fair (i ∷ h) =
      let out = (react (phase_after s h) i).output in
      fair-handed (i ∷ h) out (arrived i out ++ log_of s h) refl refl (fair-arrived i out (log_of s h) (fair h))
      (λ a e. ends_open (log_of s h) (phase_after s h) i (step (phase_after s h) i) (standing s h) a e)

  pub rising : (h : History) → next_number (log_of s h) < top → Falling (next_number (log_of s h)) (answered_receipts (log_of s h))
  rising h below = (counts (log_of s h) (fair h) below).fall

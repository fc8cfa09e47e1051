-- The call in hand: it has run, on the book before it and with the replies since, to where the runtime stands, and the items handed
-- out are those of its run; so they stand in the log. Assumes nothing.
use Prim.Native.Nat.{ℕ}
use mathlib.Core.Bool.{Bool, true, false, cond}
use mathlib.Core.List.{List, [], ◌∷◌, ◌++◌, append-nil}
use mathlib.Core.Logic.{◌⊎◌, inl, inr, ⊎_elim}
use Rattle.std.specs.Prelude.{Option, Some, None}
use Rattle.std.proofs.lemmas.Option.{none-some}
use Rattle.model.proofs.Options.{some-ne-none}
use mathlib.Core.Path.{◌≡◌, refl, sym, ap, ◌∙◌, subst}
use lib.IntN.{ℤ}
use Rattle.model.specs.declared.Submission.{Submission}
use Rattle.rules.specs.Book.{Book}
use Rattle.rules.specs.Interaction.{Interaction, Done, Observe, Execute, Fallback, Record}
use Rattle.rules.specs.Lists.{Mem}
use Rattle.rules.specs.Protocol.{Call, Submit, Reply, FellBack, Input, Replies, Item, ItemExecute, Output, Started, StartRefused, Hands, Answers, Reminds, Refuses, Shows, NoRuntime, Start, Phase, book_in, begin, proceed, start, called, effect, apply, react}
use Rattle.rules.specs.Log.{History, phase_after, output_after, Event, Took, Replied, Handed, Ended, Log, handed, took_effect, arrived, logged, log_of, opened, book_before, call_of, Exchange, with_reply, with_item, current, submission_in, reaching, executed}
use Rattle.rules.specs.Way.{Runs, here}
use Rattle.rules.proofs.Basics.{mem-right}
use Rattle.rules.proofs.Steps.{Stands, at_observe, at_execute, at_fallback, at_record, event_at, handed-event, effective, Step, stays, tries, begins, answers, step}
use Rattle.rules.proofs.Trees.{items_at, item-taken, one_more}

-- ---- where an interaction stands

stands_at : (t u : Interaction) → Stands t (proceed u).phase → u ≡ t
unfolding proceed
stands_at t (Done b a) h = elim h [ ]
stands_at t (Observe axis b k) at_observe = refl
stands_at t (Execute c p b k) at_execute = refl
stands_at t (Fallback axis r b k) at_fallback = refl
stands_at t (Record r b k) at_record = refl

-- there is a book to read, so no start is under way
shows : (u : Interaction) → (b : Book) × (book_in (proceed u).phase ≡ Some b)
unfolding proceed book_in
shows (Done b a) = (_, refl)
shows (Observe axis b k) = (_, refl)
shows (Execute c p b k) = (_, refl)
shows (Fallback axis r b k) = (_, refl)
shows (Record r b k) = (_, refl)

-- ---- the invariant

-- a call has run, on a book, to where it stands now
pub record Ran (b : Book) (x : Exchange) : Type 0 where
  pub at : Interaction
  pub answered : List Item
  pub run : Runs (begin x.call b) x.replies answered at
  pub items : x.items ≡ answered ++ items_at at

-- and that is where the runtime stands, and what the log has last
pub record Stood (t : Interaction) (l : Log) (p : Phase) : Type 0 where
  pub phase : (proceed t).phase ≡ p
  pub earlier : Log
  pub newest : l ≡ event_at t ++ earlier

record Linked (old : Option Book) (x : Exchange) (l : Log) (p : Phase) : Type 0 where
  book : Book
  began : old ≡ Some book
  ran : Ran book x
  stood : Stood ran.at l p

abbrev Track : Option Exchange → Option Book → Log → Phase → Type 0
Track None old l p = Unit
Track (Some x) old l p = Linked old x l p

-- a call has come to its next item, or to its end
module _ {old : Option Book} {book : Book} (began : old ≡ Some book) where
  link : (l : Log) (x : Exchange) (is : List Item) (u : Interaction) → Runs (begin x.call book) x.replies is u → x.items ≡ is ++ items_at u
      → Linked old x (event_at u ++ l) (proceed u).phase
  link l x is u w e =
      record {
        book = book;
        began = began;
        ran = record { at = u; answered = is; run = w; items = e };
        stood = record { phase = refl; earlier = l; newest = refl };
      }

  enter : (l : Log) (x : Exchange) (u : Interaction) → current l ≡ Some x → Runs (begin x.call book) x.replies x.items u
      → Track (current (event_at u ++ l)) old (event_at u ++ l) (proceed u).phase
  unfolding current with_item event_at items_at
  enter l x (Done b a) e w = rw e (link l x x.items (Done b a) w (sym (append-nil x.items)))
  enter l x (Observe axis b k) e w = rw e (link l _ x.items (Observe axis b k) w refl)
  enter l x (Execute c p b k) e w = rw e (link l _ x.items (Execute c p b k) w refl)
  enter l x (Fallback axis r b k) e w = rw e (link l _ x.items (Fallback axis r b k) w refl)
  enter l x (Record r b k) e w = rw e (link l _ x.items (Record r b k) w refl)

-- before the first call there is none in hand
handed-none : (out : Output) (l : Log) → current l ≡ None → current (handed out ++ l) ≡ None
unfolding handed current with_item
handed-none Started l e = e
handed-none (StartRefused n) l e = e
handed-none (Hands item) l e = rw e
handed-none (Answers a) l e = e
handed-none (Reminds n item) l e = e
handed-none (Refuses n) l e = e
handed-none (Shows v) l e = e
handed-none NoRuntime l e = e

reply-none : (r : Reply) (out : Output) (l : Log) → current l ≡ None → current (logged (Replies r) out l) ≡ None
unfolding logged arrived current with_reply
reply-none r out l e = handed-none out _ (go (took_effect out))
  where
    go : (took : Bool) → current (cond took (Replied r ∷ []) [] ++ l) ≡ None
    go true = rw e
    go false = e

-- so a reply is of account only where there is one
after-reply : (l : Log) (old : Option Book) (p : Phase) (r : Reply)
    → let after = logged (Replies r) (react p (Replies r)).output l in
    ((x : Exchange) → current l ≡ Some x → Linked old x l p → Track (current after) old after (react p (Replies r)).phase)
    → (c : Option Exchange) → current l ≡ c → Track c old l p → Track (current after) old after (react p (Replies r)).phase
after-reply l old p r f None e t = rw (reply-none r (react p (Replies r)).output l e) tt
after-reply l old p r f (Some x) e t = f x e t

track-step : (l : Log) (old : Option Book) (p : Phase) (i : Input) → Step p i → Track (current l) old l p
    → let after = logged i (react p i).output l in
    Track (current after) (opened i (react p i).output (book_in p) old) after (react p i).phase
unfolding react apply effect called logged arrived opened book_in current with_reply
track-step l old p i (stays st) t = rw (st.log l, st.book (book_in p) old, st.phase) t
track-step l old p i (tries s axis rest good ok) t =
    after-reply l old p (FellBack ok)
    (λ x e k. absurd (some-ne-none _ (sym (shows k.ran.at).1 ∙ ap book_in k.stood.phase))) (current l) refl t
track-step l old p i (begins b c) t =
    rw (effective (begin c b), handed-event (begin c b))
    (enter refl (Took c ∷ l) (record { call = c; replies = []; items = [] }) (begin c b) refl here)
track-step l old p i (answers {r = r} u v a) t =
    after-reply l old p r
    (λ x e k.
    let same : k.ran.at ≡ u = stands_at u k.ran.at (rw k.stood.phase a.stands) in
    let items : x.items ≡ k.ran.answered ++ (a.item ∷ []) = k.ran.items ∙ rw (same, item-taken a.takes) refl in
    rw (a.log l, a.reaction)
    (enter k.began (Replied r ∷ l) (record { call = x.call; replies = x.replies ++ (r ∷ []); items = x.items }) v (rw e)
    (rw items (one_more (rw same at k.ran.run) a.takes))))
    (current l) refl t

track : (s : Start) (h : History) → Track (current (log_of s h)) (book_before s h) (log_of s h) (phase_after s h)
unfolding log_of phase_after book_before current
track s [] = rw (← (append-nil (handed (start s).output)), handed-none (start s).output [] refl) tt
track s (i ∷ h) = track-step (log_of s h) (book_before s h) (phase_after s h) i (step (phase_after s h) i) (track s h)

in-hand : (s : Start) (h : History) (x : Exchange) → current (log_of s h) ≡ Some x → Linked (book_before s h) x (log_of s h) (phase_after s h)
in-hand s h x e = rw e at (track s h)

pub begun : (s : Start) (h : History) (x : Exchange) → current (log_of s h) ≡ Some x → (b : Book) × (book_before s h ≡ Some b)
begun s h x e = let k = in-hand s h x e in (k.book, k.began)

pub stands : (s : Start) (h : History) (x : Exchange) (b : Book) → current (log_of s h) ≡ Some x → book_before s h ≡ Some b
    → (k : Ran b x) × Stood k.at (log_of s h) (phase_after s h)
stands s h x b e f =
    let k = in-hand s h x e in
    let began = k.began in
    subst (λ b. (r : Ran b x) × Stood r.at (log_of s h) (phase_after s h)) (cc) (k.ran, k.stood)

pub ran : (s : Start) (h : History) (x : Exchange) (b : Book) → current (log_of s h) ≡ Some x → book_before s h ≡ Some b → Ran b x
ran s h x b e f = (stands s h x b e f).0

-- ---- the call in hand and the log

call_in : Option Exchange → Option Call
call_in None = None
call_in (Some x) = Some x.call

reply-call : (r : Reply) (c : Option Exchange) → call_in (with_reply r c) ≡ call_in c
unfolding call_in with_reply
reply-call r None = refl
reply-call r (Some x) = refl

item-call : (i : Item) (c : Option Exchange) → call_in (with_item i c) ≡ call_in c
unfolding call_in with_item
item-call i None = refl
item-call i (Some x) = refl

call-in : (l : Log) → call_of l ≡ call_in (current l)
unfolding call_of call_in current
call-in [] = refl
call-in (Took c ∷ l) = refl
call-in (Replied r ∷ l) = call-in l ∙ sym (reply-call r (current l))
call-in (Handed i ∷ l) = call-in l ∙ sym (item-call i (current l))
call-in (Ended a ∷ l) = call-in l

pub current-call : (l : Log) (x : Exchange) → current l ≡ Some x → call_of l ≡ Some x.call
unfolding call_in
current-call l x e = call-in l ∙ ap call_in e

unfoldable pub items_in : Option Exchange → List Item
items_in None = []
items_in (Some x) = x.items

pub reply-items : (r : Reply) (c : Option Exchange) → items_in (with_reply r c) ≡ items_in c
unfolding items_in with_reply
reply-items r None = refl
reply-items r (Some x) = refl

last-or-before : {A : Type 0} {a b : A} (l : List A) → Mem a (l ++ (b ∷ [])) → (a ≡ b) ⊎ Mem a l
last-or-before [] m = m
last-or-before (c ∷ l) (inl e) = inr (inl e)
last-or-before (c ∷ l) (inr m) = ⊎_elim inl (λ m. inr (inr m)) (last-or-before l m)

pub new-or-before : (i j : Item) (c : Option Exchange) → Mem i (items_in (with_item j c)) → (i ≡ j) ⊎ Mem i (items_in c)
unfolding items_in with_item
new-or-before i j None m = absurd m
new-or-before i j (Some x) m = last-or-before x.items m

-- an item of the call in hand was handed out, and while that call was in hand
module _ (i : Item) (c : Call) (P : Log → Type 0) (keeps : (e : Event) (l : Log) → P l → P (e ∷ l))
    (at : (l : Log) → call_of l ≡ Some c → P (Handed i ∷ l)) where
  found : (l : Log) → call_of l ≡ Some c → Mem i (items_in (current l)) → P l
  unfolding call_of current items_in
  found [] e m = absurd m
  found (Took d ∷ l) e m = absurd m
  found (Replied r ∷ l) e m = keeps (Replied r) l (found l e (rw (reply-items r (current l)) at m))
  found (Handed j ∷ l) e m =
      ⊎_elim (λ q. rw (← q) (at l e)) (λ m. keeps (Handed j) l (found l e m)) (new-or-before i j (current l) m)
  found (Ended a ∷ l) e m = keeps (Ended a) l (found l e m)

  pub item-found : (l : Log) (x : Exchange) → current l ≡ Some x → x.call ≡ c → Mem i x.items → P l
  unfolding items_in
  item-found l x e f m = found l (current-call l x e ∙ ap Some f) (rw e m)

pub current-item : (l : Log) (x : Exchange) (i : Item) → current l ≡ Some x → Mem i x.items → Mem (Handed i) l
current-item l x i e m = item-found i x.call (λ l. Mem (Handed i) l) (λ e l m. inr m) (λ l e. inl refl) l x e refl m

still-executed : (o : Submission) (e : Event) (l : Log) → Mem o (executed l) → Mem o (executed (e ∷ l))
unfolding executed
still-executed o (Took c) l m = m
still-executed o (Replied r) l m = m
still-executed o (Handed i) l m = mem-right o (reaching i (call_of l)) (executed l) m
still-executed o (Ended a) l m = m

-- an order whose call has handed out execute is among those that reached it
pub current-executed : (l : Log) (x : Exchange) (o : Submission) (c : ℕ) (p : List ℤ) → current l ≡ Some x → x.call ≡ Submit o
    → Mem (ItemExecute c p) x.items → Mem o (executed l)
unfolding executed reaching submission_in
current-executed l x o c p e f m =
    item-found (ItemExecute c p) (Submit o) (λ l. Mem o (executed l)) (still-executed o) (λ l e. rw e (inl refl)) l x e f m

newest-item : (i : Item) (c : Option Exchange) (x : Exchange) → with_item i c ≡ Some x → Mem i x.items
unfolding with_item items_in
newest-item i None x e = absurd (none-some x e)
newest-item i (Some y) x e = subst (λ c. Mem i (items_in c)) e (mem-right i y.items (i ∷ []) (inl refl))

-- what the newest input handed out is among the items of the call in hand
pub output-item : (s : Start) (h : History) (i : Item) (x : Exchange) → output_after s h ≡ Hands i → current (log_of s h) ≡ Some x
    → Mem i x.items
unfolding output_after log_of logged handed current
output-item s [] i x e f = newest-item i None x (rw e at f)
output-item s (j ∷ h) i x e f = newest-item i (current (arrived j (Hands i) ++ log_of s h)) x (rw e at f)

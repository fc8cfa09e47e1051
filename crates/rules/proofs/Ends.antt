-- Where the call in hand stands, by the newest output: at its end, or at a record item. How its run divides after its opening tick, and
-- that it began where the runtime was idle. Assumes nothing.
use Prim.Native.Nat.{ℕ}
use mathlib.Core.Bool.{cond, false≢true}
use mathlib.Core.List.{List, [], ◌∷◌, ◌++◌, append-nil}
use mathlib.Core.Logic.{◌⊎◌, inl, inr}
use Rattle.std.specs.Prelude.{Option, Some}
use Rattle.std.proofs.lemmas.Option.{none-some}
use Rattle.model.proofs.Options.{some-injective}
use mathlib.Core.Path.{◌≡◌, sym, ap, ◌∙◌, subst}
use Rattle.model.specs.declared.Receipt.{Receipt}
use Rattle.model.specs.declared.Submission.{Submission}
use Rattle.rules.specs.Book.{Book}
use Rattle.rules.specs.Interaction.{Answer, Returned, Interaction, Done, Observe, Execute, Fallback, Record}
use Rattle.rules.specs.Admission.{validate}
use Rattle.rules.specs.Rules.{tick, admit, submit}
use Rattle.rules.specs.Protocol.{Call, Submit, Reply, Input, Item, ItemRecord, Hands, Answers, Start, Phase, Idle, Waiting, OnRecord, book_in, begin, proceed, called, effect, apply, react}
use Rattle.rules.specs.Log.{History, phase_after, output_after, Handed, Ended, Log, handed, log_of, opened, book_before, Exchange, current}
use Rattle.rules.specs.Way.{Runs, Ticked}
use Rattle.rules.proofs.Steps.{event_at, effective, Step, stays, tries, begins, answers, step}
use Rattle.rules.proofs.Trees.{OfFallback, items_at, Beyond, past, tick-then, rest}
use Rattle.rules.proofs.InHand.{Stood, stands}
use Rattle.rules.proofs.Turns.{newest}

-- ---- at an end, and at a record item

-- it has run to its end, with this answer and this book
pub record EndedAt (b : Book) (x : Exchange) (a : Answer) (p : Phase) : Type 0 where
  pub book : Book
  pub run : Runs (begin x.call b) x.replies x.items (Done book a)
  pub idle : p ≡ Idle book

-- it has run to where it hands out this receipt
pub record RecordsAt (b : Book) (x : Exchange) (r : Receipt) (p : Phase) : Type 0 where
  pub book : Book
  pub next : Interaction
  pub answered : List Item
  pub run : Runs (begin x.call b) x.replies answered (Record r book next)
  pub items : x.items ≡ answered ++ (ItemRecord r ∷ [])
  pub waits : p ≡ Waiting (OnRecord r book next)

module _ (b : Book) (x : Exchange) (l m : Log) (p : Phase) where
  ended_at : (a : Answer) (is : List Item) (t : Interaction) → Runs (begin x.call b) x.replies is t → x.items ≡ is ++ items_at t
      → Stood t l p → l ≡ Ended a ∷ m → EndedAt b x a p
  unfolding items_at event_at proceed
  ended_at a is (Done b' a') w e k q =
      let same : Ended a' ∷ k.earlier ≡ Ended a ∷ m = sym k.newest ∙ q in
      record {
        book = b';
        run = rw (e, append-nil) (subst (λ a. Runs (begin x.call b) x.replies is (Done b' a)) (cc) w);
        idle = sym k.phase;
      }
  ended_at a is (Observe axis b' f) w e k q = absurd (false≢true (let same = sym k.newest ∙ q in cc))
  ended_at a is (Execute c ps b' f) w e k q = absurd (false≢true (let same = sym k.newest ∙ q in cc))
  ended_at a is (Fallback axis r b' f) w e k q = absurd (false≢true (let same = sym k.newest ∙ q in cc))
  ended_at a is (Record r b' t) w e k q = absurd (false≢true (let same = sym k.newest ∙ q in cc))

  records-at : (r : Receipt) (is : List Item) (t : Interaction) → Runs (begin x.call b) x.replies is t → x.items ≡ is ++ items_at t
      → Stood t l p → l ≡ Handed (ItemRecord r) ∷ m → RecordsAt b x r p
  unfolding items_at event_at proceed
  records-at r is (Record r' b' t) w e k q =
      let same : Handed (ItemRecord r') ∷ k.earlier ≡ Handed (ItemRecord r) ∷ m = sym k.newest ∙ q in
      let own : r' ≡ r = cc in
      record {
        book = b';
        next = t;
        answered = is;
        run = rw own at w;
        items = rw own at e;
        waits = rw own at (sym k.phase);
      }
  records-at r is (Done b' a') w e k q = absurd (false≢true (let same = sym k.newest ∙ q in cc))
  records-at r is (Observe axis b' f) w e k q = absurd (false≢true (let same = sym k.newest ∙ q in cc))
  records-at r is (Execute c ps b' f) w e k q = absurd (false≢true (let same = sym k.newest ∙ q in cc))
  records-at r is (Fallback axis reason b' f) w e k q = absurd (false≢true (let same = sym k.newest ∙ q in cc))

module _ (s : Start) (h : History) (x : Exchange) (b : Book) (e : current (log_of s h) ≡ Some x) (f : book_before s h ≡ Some b) where
  pub ended : (a : Answer) → output_after s h ≡ Answers a → EndedAt b x a (phase_after s h)
  unfolding handed
  ended a out =
      let k = stands s h x b e f in
      let n = newest s h (Ended a) (ap handed out) in
      ended_at b x (log_of s h) n.0 (phase_after s h) a k.0.answered k.0.at k.0.run k.0.items k.1 n.1

  pub recording : (r : Receipt) → output_after s h ≡ Hands (ItemRecord r) → RecordsAt b x r (phase_after s h)
  unfolding handed
  recording r out =
      let k = stands s h x b e f in
      let n = newest s h (Handed (ItemRecord r)) (ap handed out) in
      records-at b x (log_of s h) n.0 (phase_after s h) r k.0.answered k.0.at k.0.run k.0.items k.1 n.1

-- ---- past the opening tick

-- the tick has ended with a book, and the run has gone on from there
pub record Opened (now : ℕ) (before : Book) (next : Book → Interaction) (rs : List Reply) (is : List Item) (v : Interaction) : Type 0 where
  pub book : Book
  pub ticking : List Reply
  pub tick_items : List Item
  pub ticked : Runs (tick now before (λ b. Done b Returned)) ticking tick_items (Done book Returned)
  pub later : List Reply
  pub later_items : List Item
  pub replies : rs ≡ ticking ++ later
  pub items : is ≡ tick_items ++ later_items
  pub left : Runs (next book) later later_items v

pub opens : {rs : List Reply} {is : List Item} {v : Interaction} (now : ℕ) (next : Book → Interaction) (before : Book)
    → Runs (tick now before next) rs is v → Beyond OfFallback is v → Opened now before next rs is v
opens now next before w beyond =
    let p = past (tick-then now next before) w beyond in
    record {
      book = p.book;
      ticking = p.first;
      tick_items = p.first_items;
      ticked = rw p.end.0 at p.ended;
      later = p.second;
      later_items = p.second_items;
      replies = p.split;
      items = p.split_items;
      left = rw p.end.1 at p.left;
    }

-- what is left of a run after the run of its tick
pub resumes : {rs first second : List Reply} {first_items is : List Item} {book : Book} {v : Interaction} (now : ℕ) (next : Book → Interaction) (before : Book)
    → rs ≡ first ++ second → Runs (tick now before (λ b. Done b Returned)) first first_items (Done book Returned) → Runs (tick now before next) rs is v
    → (later : List Item) × Runs (next book) second later v
resumes now next before q ticked w =
    let k = rest (tick-then now next before) ticked (rw q at w) in
    (k.items, rw k.end.1 at k.left)

-- a submission: its admission follows the tick
pub opens-order : {rs : List Reply} {is : List Item} {v : Interaction} (c : Call) (o : Submission) (before : Book) → c ≡ Submit o
    → Runs (begin c before) rs is v → Beyond OfFallback is v → Opened o.now before (λ b. admit (validate o b) o b) rs is v
unfolding begin submit
opens-order c o before e w beyond = opens o.now _ before (rw e at w) beyond

-- as the table says it; the item at which the call stands may be among the later ones
abbrev pub ticked-by : {is : List Item} {v : Interaction} {now : ℕ} {next : Book → Interaction} {before : Book} (x : Exchange)
    (o : Opened now before next x.replies is v) (later : List Item) → x.items ≡ o.tick_items ++ later → Ticked now before x o.book
ticked-by x o later e =
    record {
      ticking = o.ticking;
      tick_items = o.tick_items;
      run = o.ticked;
      later = o.later;
      later_items = later;
      replies = o.replies;
      items = e;
    }

-- ---- where the call in hand was taken

began : (p : Phase) (i : Input) (old : Option Book) (b : Book) → Step p i → opened i (react p i).output (book_in p) old ≡ Some b
    → (p ≡ Idle b) ⊎ (old ≡ Some b)
unfolding react apply effect called opened book_in
began p i old b (stays st) e = inr (sym (st.book (book_in p) old) ∙ e)
began p i old b (tries s axis rest good ok) e = inr e
began p i old b (begins b₀ c) e =
    inl (ap Idle (some-injective b₀ b (sym (ap (λ t. cond t (Some b₀) old) (effective (begin c b₀))) ∙ e)))
began p i old b (answers t u a) e = inr e

pub before-idle : (s : Start) (h : History) (b : Book) → book_before s h ≡ Some b → (h₀ : History) × (phase_after s h₀ ≡ Idle b)
unfolding book_before
before-idle s [] b e = absurd (none-some b e)
before-idle s (i ∷ past) b e = go (began (phase_after s past) i (book_before s past) b (step (phase_after s past) i) e) (before-idle s past b)
  where
    go : (phase_after s past ≡ Idle b) ⊎ (book_before s past ≡ Some b) → (book_before s past ≡ Some b → (h₀ : History) × (phase_after s h₀ ≡ Idle b))
        → (h₀ : History) × (phase_after s h₀ ≡ Idle b)
    go (inl q) rest = (past, q)
    go (inr q) rest = rest q

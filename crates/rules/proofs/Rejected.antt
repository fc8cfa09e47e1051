-- What a rejected order leaves, while its receipt is awaited and at its answer. Assumes nothing.
use Prim.Native.Nat.{ℕ}
use mathlib.Core.Bool.{Bool, true, false, cond, ◌&&◌, false≢true}
use mathlib.Core.List.{List, [], ◌∷◌, ◌++◌, append_assoc}
use mathlib.Core.Logic.{◌⊎◌, inl, inr}
use Rattle.std.specs.Prelude.{Option, Some, None}
use mathlib.Core.Path.{◌≡◌, refl, sym, ap, ◌∙◌, subst}
use borrow.Author.Tests.{leb-true, le-leb}
use lib.Dec.{leb}
use Rattle.model.specs.declared.Decision.TheVariants as Decision
use Rattle.model.specs.declared.Reason.{Reason}
use Rattle.model.specs.declared.Receipt.{Receipt}
use Rattle.model.specs.declared.RuntimeState.{RuntimeState}
use Rattle.model.specs.declared.RuntimeState.TheVariants as State
use Rattle.model.specs.declared.Submission.{Submission}
use Rattle.model.proofs.Tests.{and_both}
use Rattle.rules.specs.Book.{Book}
use Rattle.rules.specs.With.{with_receipts, with_next_receipt, with_invalid_count}
use Rattle.rules.specs.Receipts.{bump_to, kept, numbered, order_receipt}
use Rattle.rules.specs.Interaction.{Submitted, Interaction, Done, Record}
use Rattle.rules.specs.Admission.{first_failing, is_armed, order_capability, order_lease, admission, Verdict, Admits, Rejects, verdict, validate}
use Rattle.rules.specs.Rules.{record_receipt, trip, storm, reject, admit}
use Rattle.rules.specs.Protocol.{Submit, Reply, Recorded, Item, ItemRecord, Hands, Answers, Start, Idle, wait_book, book_in}
use Rattle.rules.specs.Log.{History, phase_after, output_after, log_of, book_before, Exchange, current}
use Rattle.rules.specs.Way.{recorded, Runs, here, then}
use Rattle.rules.specs.Refusals.{Rejected, Counted, Storms, Stormed, Calm}
use Rattle.rules.proofs.Basics.{mem-right}
use Rattle.rules.proofs.Admission.{admitted-exactly}
use Rattle.rules.proofs.Trees.{items_at, over, handed, recorded-as, at-end}
use Rattle.rules.proofs.Exactly.{quiet-storm, admits}
use Rattle.rules.proofs.Ends.{EndedAt, ended, recording, Opened, opens-order, ticked-by}
use Rattle.rules.proofs.Suits.{Unrejected, not-rejected, no-fallback, submission, suits, rejects-only, tells-admitted, storm-answers}

-- ---- past the tick

counted : Book → Book
counted b = with_invalid_count (bump_to 65535 b.invalid_count) b

-- the count and the receipt, and nothing else
rejected-in : (b : Book) (r : Receipt) → Rejected b r (kept r (counted b))
unfolding counted kept with_next_receipt with_receipts with_invalid_count
rejected-in b r =
    record {
      count = refl;
      receipts = refl;
      next = refl;
      leases = refl;
      replay = refl;
      active = refl;
      config = refl;
      boot = refl;
      capabilities = refl;
      next_lease = refl;
      epoch = refl;
      flags = refl;
      stamp = refl;
      last_tick = refl;
      state = refl;
      seen = refl;
    }

-- the reason is that of the first check that fails: where none fails the order is admitted
rejected-by : (o : Submission) (b : Book) (reason : Reason) → validate o b ≡ Rejects reason → first_failing (admission o b) ≡ Some reason
unfolding validate verdict
rejected-by o b reason e = go (first_failing (admission o b)) refl e
  where
    go : (f : Option Reason) → first_failing (admission o b) ≡ f → verdict f (order_capability o b) (order_lease o b) ≡ Rejects reason → f ≡ Some reason
    go None q d = absurd (false≢true (let k = admits o b ((admitted-exactly o b).0 q) in cc))
    go (Some why) q d = cc

-- while the receipt is awaited: it is the first item after the tick
record Awaits (o : Submission) (b : Book) (r : Receipt) (rs : List Reply) (is : List Item) (b' : Book) : Type 0 where
  why : first_failing (admission o b) ≡ Some r.reason
  rejected : Rejected b r b'
  nothing : is ≡ []

-- a run from a record item that comes to stand at this one, and cannot after it
stands-at : {q r : Receipt} {c b' : Book} {t k : Interaction} {rs : List Reply} {is : List Item} (o : Submission) (b : Book)
    → Awaits o b q [] [] c → ((rs : List Reply) (is : List Item) → Runs t rs is (Record r b' k) → ⊥)
    → Runs (Record q c t) rs is (Record r b' k) → Awaits o b r rs is b'
stands-at o b a n here = a
stands-at o b a n (then recorded w) = absurd (n _ _ w)

awaits-reject : {rs : List Reply} {is : List Item} {r : Receipt} {b' : Book} {k : Interaction} (v : Verdict) (o : Submission) (b : Book)
    → validate o b ≡ v → r.decision ≡ Decision.Rejected → Runs (admit v o b) rs is (Record r b' k) → Awaits o b r rs is b'
unfolding admit reject record_receipt counted numbered order_receipt
awaits-reject {r = r} (Admits c l) o b q e w = absurd (not-rejected r e (tells-admitted c l o b w))
awaits-reject {r = r} (Rejects reason) o b q e w =
    stands-at o b (record { why = rejected-by o b reason q; rejected = rejected-in b _; nothing = refl })
    (λ rs is w. no-fallback r e (recorded-as (quiet-storm {P = λ a. Unit} (λ r e. e) o.now _ _ tt) w)) w

armed : (x : RuntimeState) → is_armed x ≡ true → x ≡ State.Armed
unfolding is_armed
armed State.SafeIdle e = absurd (false≢true e)
armed State.Armed e = refl
armed State.Faulted e = absurd (false≢true e)
armed State.Estopped e = absurd (false≢true e)

storms : (b : Book) → Storms b → (leb b.config.invalid_limit b.invalid_count && is_armed b.state) ≡ true
unfolding is_armed
storms b k = rw (le-leb _ _ k.0, k.1)

-- the storm, if it comes, and no other end
data Blown (now : ℕ) (r : Receipt) (b : Book) (rs : List Reply) (is : List Item) (after : Book) : Type 0 where
  calm : ¬ Storms b → rs ≡ [] → is ≡ [] → after ≡ b → Blown now r b rs is after
  storm-came : Storms b → Runs (trip Reason.InvalidStorm now b (λ b'. Done b' (Submitted r))) rs is (Done after (Submitted r)) → Blown now r b rs is after

blown : {rs : List Reply} {is : List Item} {after : Book} (now : ℕ) (r : Receipt) (b : Book)
    → Runs (storm now r b) rs is (Done after (Submitted r)) → Blown now r b rs is after
unfolding storm
blown {rs} {is} {after} now r b w = go (leb b.config.invalid_limit b.invalid_count && is_armed b.state) refl w
  where
    go : (t : Bool) → (leb b.config.invalid_limit b.invalid_count && is_armed b.state) ≡ t
        → Runs (cond t (trip Reason.InvalidStorm now b (λ b'. Done b' (Submitted r))) (Done b (Submitted r))) rs is (Done after (Submitted r))
        → Blown now r b rs is after
    go true e w =
        let k = and_both (leb b.config.invalid_limit b.invalid_count) (is_armed b.state) e in
        storm-came (leb-true _ _ k.0, armed b.state k.1) w
    go false e w = let k = at-end w in calm (λ d. false≢true (sym e ∙ storms b d)) k.replies k.items (sym k.book)

-- at the end: the receipt was the first item after the tick
record EndsSo (o : Submission) (r : Receipt) (b : Book) (rs : List Reply) (is : List Item) (after : Book) : Type 0 where
  why : first_failing (admission o b) ≡ Some r.reason
  book : Book
  rejected : Rejected b r book
  replies : List Reply
  later : rs ≡ Recorded ∷ replies
  items : List Item
  receipt : is ≡ ItemRecord r ∷ items
  left : Blown o.now r book replies items after

counts : {rs : List Reply} {is : List Item} {r : Receipt} {after : Book} (o : Submission) (r' : Receipt) (b : Book)
    → first_failing (admission o b) ≡ Some r'.reason → Runs (storm o.now r' (kept r' (counted b))) rs is (Done after (Submitted r))
    → EndsSo o r b (Recorded ∷ rs) (ItemRecord r' ∷ is) after
counts {rs} {is} {r} {after} o r' b why w =
    let answer = storm-answers o.now r' (kept r' (counted b)) w in
    let same : r' ≡ r = cc in
    let w' = subst (λ r'. Runs (storm o.now r' (kept r' (counted b))) rs is (Done after (Submitted r))) same w in
    record {
      why = rw same at why;
      book = kept r (counted b);
      rejected = rejected-in b r;
      replies = rs;
      later = refl;
      items = is;
      receipt = ap (λ (q : Receipt). ItemRecord q ∷ is) same;
      left = blown o.now r (kept r (counted b)) w';
    }

ends-reject : {rs : List Reply} {is : List Item} {r : Receipt} {after : Book} (v : Verdict) (o : Submission) (b : Book)
    → validate o b ≡ v → r.decision ≡ Decision.Rejected → Runs (admit v o b) rs is (Done after (Submitted r)) → EndsSo o r b rs is after
unfolding admit reject record_receipt counted numbered order_receipt
ends-reject {r = r} (Admits c l) o b q e w =
    let k = tells-admitted c l o b w in
    let answer = k.0.answer in
    let same : k.0.receipt ≡ r = cc in
    absurd (not-rejected r e (subst Unrejected same k.1))
ends-reject (Rejects reason) o b q e (then recorded w) = counts o _ b (rejected-by o b reason q) w

-- ---- after every history

pub rejecting : (s : Start) (h : History) (x : Exchange) (b : Book) (r : Receipt) → output_after s h ≡ Hands (ItemRecord r)
    → r.decision ≡ Decision.Rejected → current (log_of s h) ≡ Some x → book_before s h ≡ Some b
    → (k : Counted x b r) × (book_in (phase_after s h) ≡ Some k.counted)
unfolding items_at book_in wait_book
rejecting s h x b r out d e f =
    let last : List Item = ItemRecord r ∷ [] in
    let at = recording s h x b e f r out in
    let order = rejects-only x.call b at.run d in
    let beyond = handed (ItemRecord r) (no-fallback r d) (mem-right _ at.answered _ (inl refl)) in
    let k = opens-order x.call order.0 b order.1 at.run beyond in
    let a = awaits-reject _ order.0 k.book refl d k.left in (
      record {
        order = order.0;
        call = order.1;
        book = k.book;
        ticked =
            ticked-by x k (k.later_items ++ last)
            (at.items ∙ ap (λ (m : List Item). m ++ last) k.items ∙ append_assoc k.tick_items k.later_items last);
        why = a.why;
        counted = at.book;
        rejected = a.rejected;
        items = [];
        receipt = ap (λ (m : List Item). m ++ last) a.nothing;
      },
      ap book_in at.waits,
    )

pub rejected : (s : Start) (h : History) (x : Exchange) (b : Book) (r : Receipt) → output_after s h ≡ Answers (Submitted r)
    → r.decision ≡ Decision.Rejected → current (log_of s h) ≡ Some x → book_before s h ≡ Some b
    → (k : Counted x b r) × (after : Book) × (phase_after s h ≡ Idle after) × (Calm x b r k after ⊎ Stormed x b r k after)
rejected s h x b r out d e f = (k, at.book, at.idle, go c.left)
  where
    at : EndedAt b x (Submitted r) (phase_after s h)
    at = ended s h x b e f (Submitted r) out

    order : (o : Submission) × (x.call ≡ Submit o)
    order = submission (suits x.call b at.run)

    o : Opened order.0.now b (λ b. admit (validate order.0 b) order.0 b) x.replies x.items (Done at.book (Submitted r))
    o = opens-order x.call order.0 b order.1 at.run (over tt)

    c : EndsSo order.0 r o.book o.later o.later_items at.book
    c = ends-reject _ order.0 o.book refl d o.left

    k : Counted x b r
    k =
        record {
          order = order.0;
          call = order.1;
          book = o.book;
          ticked = ticked-by x o o.later_items o.items;
          why = c.why;
          counted = c.book;
          rejected = c.rejected;
          items = c.items;
          receipt = c.receipt;
        }

    go : Blown order.0.now r c.book c.replies c.items at.book → Calm x b r k at.book ⊎ Stormed x b r k at.book
    go (calm n no-reply nothing same) =
        inl record { not-due = n; later = c.later ∙ ap (λ (q : List Reply). Recorded ∷ q) no-reply; nothing-more = nothing; same = same }
    go (storm-came due w) = inr record { due = due; replies = c.replies; later = c.later; run = w }

-- Keeping one receipt more keeps their numbers rising; which one makes room; and a log's next events keep at most one more. Assumes nothing.
use Prim.Native.Nat.{ℕ, ◌+◌, ◌≤◌}
use mathlib.Core.Bool.{Bool, true, false, cond, ◌||◌, false≢true, true≢false}
use mathlib.Core.List.{List, [], ◌∷◌, ◌++◌}
use mathlib.Core.Logic.{◌≢◌, inl, inr, ⊎_elim}
use mathlib.Core.Path.{◌≡◌, refl, sym, ap, ◌∙◌, subst}
use native.Mathlib.Omega.{arith}
use borrow.Author.Tests.{ltb-true, ltb-false}
use lib.Dec.{ltb}
use lib.ListN.{length, drop}
use Rattle.model.specs.declared.Decision.{Decision}
use Rattle.model.specs.declared.Receipt.{Receipt}
use Rattle.model.specs.Lists.{any}
use Rattle.rules.specs.Receipts.{is_rejected, rejected, drop_first_rejected, evict, receipt_capacity, keep}
use Rattle.rules.specs.Lists.{Mem}
use Rattle.rules.specs.Protocol.{Input, Calls, Replies, Reads, ItemObserve, ItemExecute, ItemFallback, ItemRecord, Output, Started, StartRefused, Hands, Answers, Reminds, Refuses, Shows, NoRuntime}
use Rattle.rules.specs.Log.{Event, Took, Replied, Log, handed, took_effect, arrived, logged, kept_with, receipts_kept}
use Rattle.rules.specs.Claim.{Between, Rising}
use Rattle.rules.specs.StateFacts.{MakesRoom, room, drops-rejected, drops-oldest, KeepsOne}
use Rattle.rules.proofs.Basics.{neither}

between-from : (m k n : ℕ) (rs : List Receipt) → m ≤ k → Between k n rs → Between m n rs
between-from m k n [] h b = tt
between-from m k n (r ∷ rs) h b = ((omega (arith, b.0.0), b.0.1), b.1)

between-drop : (m n : ℕ) (rs : List Receipt) → Between m n rs → Between m n (drop 1 rs)
between-drop m n [] b = tt
between-drop m n (r ∷ rs) b = between-from m (r.receipt_id + 1) n rs (omega (arith, b.0.0)) b.1

between-rejected : (m n : ℕ) (rs : List Receipt) → Between m n rs → Between m n (drop_first_rejected rs)
unfolding drop_first_rejected
between-rejected m n [] b = tt
between-rejected m n (r ∷ rs) b = go (rejected r) (between-rejected (r.receipt_id + 1) n rs b.1)
  where
    go : (t : Bool) → Between (r.receipt_id + 1) n (drop_first_rejected rs) → Between m n (cond t rs (r ∷ drop_first_rejected rs))
    go true k = between-from m (r.receipt_id + 1) n rs (omega (arith, b.0.0)) b.1
    go false k = (b.0, k)

between-evict : (m n : ℕ) (rs : List Receipt) → Between m n rs → Between m n (evict rs)
unfolding evict
between-evict m n rs b = go (any rejected rs)
  where
    go : (t : Bool) → Between m n (cond t (drop_first_rejected rs) (drop 1 rs))
    go true = between-rejected m n rs b
    go false = between-drop m n rs b

between-snoc : (m n : ℕ) (rs : List Receipt) (r : Receipt) → m ≤ n → r.receipt_id ≡ n → Between m n rs → Between m (n + 1) (rs ++ (r ∷ []))
between-snoc m n [] r h e b = ((omega arith, omega arith), tt)
between-snoc m n (q ∷ rs) r h e b =
    ((b.0.0, omega (arith, b.0.1)), between-snoc (q.receipt_id + 1) n rs r (omega (arith, b.0.1)) e b.1)

pub rising-keep : (n : ℕ) (rs : List Receipt) (r : Receipt) → r.receipt_id ≡ n → Rising n rs → Rising (n + 1) (keep receipt_capacity rs r)
unfolding keep
rising-keep n rs r e h = go (ltb (length rs) receipt_capacity)
  where
    snoc : (qs : List Receipt) → Between 0 n qs → Rising (n + 1) (qs ++ (r ∷ []))
    snoc qs b = record { order = between-snoc 0 n qs r (omega arith) e b; latest = inr (qs, r, refl, omega arith) }

    go : (t : Bool) → Rising (n + 1) (cond t rs (evict rs) ++ (r ∷ []))
    go true = snoc rs h.order
    go false = snoc (evict rs) (between-evict 0 n rs h.order)

-- ---- which receipt makes room

is-rejected : (d : Decision) → is_rejected d ≡ true → d ≡ Decision.Rejected
unfolding is_rejected
is-rejected Decision.Executed e = absurd (false≢true e)
is-rejected Decision.Rejected e = refl
is-rejected Decision.Fallback e = absurd (false≢true e)
is-rejected Decision.Control e = absurd (false≢true e)
is-rejected Decision.Failed e = absurd (false≢true e)

not-rejected : (d : Decision) → is_rejected d ≡ false → d ≢ Decision.Rejected
unfolding is_rejected
not-rejected d e q = true≢false (sym (ap is_rejected q) ∙ e)

-- the first rejected receipt of a list, and what is left without it
record First (rs : List Receipt) : Type 0 where
  older : List Receipt
  receipt : Receipt
  newer : List Receipt
  place : rs ≡ older ++ (receipt ∷ newer)
  rejected : receipt.decision ≡ Decision.Rejected
  first : (q : Receipt) → Mem q older → q.decision ≢ Decision.Rejected
  left : drop_first_rejected rs ≡ older ++ newer

first-rejected : (rs : List Receipt) → any rejected rs ≡ true → First rs
unfolding drop_first_rejected rejected
first-rejected [] e = absurd (false≢true e)
first-rejected (r ∷ rs) e = go (rejected r) refl e (first-rejected rs)
  where
    go : (t : Bool) → rejected r ≡ t → (t || any rejected rs) ≡ true → (any rejected rs ≡ true → First rs) → First (r ∷ rs)
    go true h e rest =
        record { older = []; receipt = r; newer = rs; place = refl; rejected = is-rejected _ h; first = λ q m. absurd m; left = rw h }
    go false h e rest =
        let k = rest e in
        record {
          older = r ∷ k.older;
          receipt = k.receipt;
          newer = k.newer;
          place = ap (λ (l : List Receipt). r ∷ l) k.place;
          rejected = k.rejected;
          first = λ q. ⊎_elim (λ same d. not-rejected r.decision h (ap (λ (x : Receipt). x.decision) (sym same) ∙ d)) (k.first q);
          left = rw h (ap (λ (l : List Receipt). r ∷ l) k.left);
        }

none-rejected : (rs : List Receipt) → any rejected rs ≡ false → (q : Receipt) → Mem q rs → q.decision ≢ Decision.Rejected
unfolding rejected
none-rejected [] e q m = absurd m
none-rejected (r ∷ rs) e q (inl same) =
    λ d. not-rejected r.decision (neither (rejected r) _ e).0 (ap (λ (x : Receipt). x.decision) (sym same) ∙ d)
none-rejected (r ∷ rs) e q (inr m) = none-rejected rs (neither (rejected r) _ e).1 q m

makes-room : (rs : List Receipt) (r : Receipt) → (left : List Receipt) × MakesRoom rs left × (keep receipt_capacity rs r ≡ left ++ (r ∷ []))
unfolding keep evict
makes-room rs r = go (ltb (length rs) receipt_capacity) refl
  where
    without : 64 ≤ length rs → (qs : List Receipt) → rs ≡ qs → any rejected rs ≡ false → MakesRoom rs (drop 1 rs)
    without full [] e none = absurd (omega (arith, ap length e))
    without full (q ∷ qs) e none =
        subst (MakesRoom rs) (ap (drop 1) (sym e)) (drops-oldest q qs full e (none-rejected rs none))

    full-ring : 64 ≤ length rs → (t : Bool) → any rejected rs ≡ t
        → (left : List Receipt) × MakesRoom rs left × (cond t (drop_first_rejected rs) (drop 1 rs) ++ (r ∷ []) ≡ left ++ (r ∷ []))
    full-ring full true e =
        let k = first-rejected rs e in (
          k.older ++ k.newer,
          drops-rejected k.older k.receipt k.newer full k.place k.rejected k.first,
          ap (λ (l : List Receipt). l ++ (r ∷ [])) k.left,
        )
    full-ring full false e = (drop 1 rs, without full rs refl e, refl)

    go : (t : Bool) → ltb (length rs) receipt_capacity ≡ t
        → (left : List Receipt) × MakesRoom rs left
        × (cond t rs (cond (any rejected rs) (drop_first_rejected rs) (drop 1 rs)) ++ (r ∷ []) ≡ left ++ (r ∷ []))
    go true e = (rs, room (ltb-true _ _ e), refl)
    go false e = full-ring (ltb-false _ _ e) (any rejected rs) refl

-- ---- what one input adds to the log

if-logged : (e : Event) (l : Log) (t : Bool) → receipts_kept (e ∷ l) ≡ receipts_kept l → receipts_kept (cond t (e ∷ []) [] ++ l) ≡ receipts_kept l
if-logged e l true same = same
if-logged e l false same = refl

arrived-none : (i : Input) (out : Output) (l : Log) → receipts_kept (arrived i out ++ l) ≡ receipts_kept l
unfolding arrived receipts_kept
arrived-none (Calls c) out l = if-logged (Took c) l (took_effect out) refl
arrived-none (Replies r) out l = if-logged (Replied r) l (took_effect out) refl
arrived-none (Reads q) out l = refl

pub one_more : (i : Input) (out : Output) (l : Log) → KeepsOne out (receipts_kept l) (receipts_kept (logged i out l))
unfolding logged handed receipts_kept kept_with
one_more i (Hands (ItemRecord r)) l =
    let k = makes-room (receipts_kept l) r in
    inr (r, refl, k.0, k.1, rw (arrived-none i (Hands (ItemRecord r)) l) k.2)
one_more i (Hands (ItemObserve axis)) l = inl (arrived-none i _ l)
one_more i (Hands (ItemExecute c p)) l = inl (arrived-none i _ l)
one_more i (Hands (ItemFallback axis reason)) l = inl (arrived-none i _ l)
one_more i Started l = inl (arrived-none i _ l)
one_more i (StartRefused n) l = inl (arrived-none i _ l)
one_more i (Answers a) l = inl (arrived-none i _ l)
one_more i (Reminds n item) l = inl (arrived-none i _ l)
one_more i (Refuses n) l = inl (arrived-none i _ l)
one_more i (Shows v) l = inl (arrived-none i _ l)
one_more i NoRuntime l = inl (arrived-none i _ l)

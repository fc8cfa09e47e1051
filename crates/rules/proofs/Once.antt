-- The parts of the claim that are read off the invariant: once, only submissions, live lease, free axis, book facts. Assumes nothing.
use Prim.Native.Nat.{ℕ}
use mathlib.Core.List.{List, [], ◌∷◌, ◌++◌, map, reverse}
use mathlib.Core.Logic.{◌⊎◌, inl, inr}
use Rattle.std.specs.Prelude.{Some}
use mathlib.Core.Path.{◌≡◌, refl, sym, ap, ◌∙◌, subst}
use lib.IntN.{ℤ}
use Rattle.model.specs.declared.Action.{Action}
use Rattle.model.specs.declared.Receipt.{Receipt}
use Rattle.model.specs.declared.Submission.{Submission}
use Rattle.rules.specs.Book.{Book}
use Rattle.rules.specs.Interaction.{Submitted}
use Rattle.rules.specs.Protocol.{Submit, ItemObserve, ItemExecute, ItemRecord, Hands, Answers, Start, Phase, Starting, Gone, Idle, Waiting, wait_book, book_in}
use Rattle.rules.specs.Lives.{Life}
use Rattle.rules.specs.Log.{History, phase_after, output_after, Event, Handed, Ended, Log, handed, log_of, executed, dispatching, executed_by, executed_in}
use Rattle.rules.specs.Lists.{Mem, Distinct}
use Rattle.rules.specs.Claim.{Carried, Leased, Observing, Recording, BookFacts}
use Rattle.rules.specs.StopFacts.{Reported}
use Rattle.rules.proofs.Basics.{mem-split}
use Rattle.rules.proofs.Turns.{newest}
use Rattle.rules.proofs.Safe.{Plain, SafePhase, at-wait, shows}
use Rattle.rules.proofs.Invariant.{I, orders, held, Proper, Carry, plain-executed}
use Rattle.rules.proofs.Within.{End}
use Rattle.rules.proofs.Calls.{invariant}

-- nothing but the start was logged, or the invariant holds
split : (s : Start) (l : Log) (p : Phase) → SafePhase s (I s) (I s) (End s) l p → Plain l ⊎ ((b : Book) × I s l b)
split s l (Starting own axis rest good) h = inl h.1.0
split s l Gone h = inl h
split s l (Idle b) h = inr (b, h)
split s l (Waiting w) h = inr (wait_book w, at-wait (I s) (End s) l w h)

pub holds : (s : Start) (h : History) (b : Book) → book_in (phase_after s h) ≡ Some b → I s (log_of s h) b
holds s h b e = shows s (I s) (End s) (log_of s h) (phase_after s h) b (invariant s h) e

pub book-facts : (s : Start) (h : History) (b : Book) → book_in (phase_after s h) ≡ Some b → BookFacts s (log_of s h) b
book-facts s h b e =
    let k = holds s h b e in
    let f = k.0 in
    record {
      config = f.config;
      boot = f.own;
      capabilities = f.capabilities;
      standing = λ axis x q. f.leasing.stands axis ∙ ap held q;
      ended = λ axis q. f.leasing.stands axis ∙ ap held q;
      home = λ axis x q. rw q at (f.leasing.home axis);
      last = λ axis x q. rw q at (f.leasing.last axis);
      replay = f.ordered.replay;
      receipts = f.counts.kept;
      next = f.counts.next;
      rising = f.counts.rising;
      apart = f.ordered.apart;
      flags = k.2.in-force;
      seen = k.2.last-raise;
      epoch = k.2.count;
    }

-- what the invariant says of an event that has just come, if no start brings its like
carried : (s : Start) (h : History) (e : Event) → ((l : Log) → ¬ Plain (e ∷ l)) → handed (output_after s h) ≡ e ∷ []
    → (l : Log) × (log_of s h ≡ e ∷ l) × Carry s (e ∷ l)
carried s h e never q = (n.0, n.1, go (split s (log_of s h) (phase_after s h) (invariant s h)))
  where
    n : (l : Log) × (log_of s h ≡ e ∷ l)
    n = newest s h e q

    go : Plain (log_of s h) ⊎ ((b : Book) × I s (log_of s h) b) → Carry s (e ∷ n.0)
    go (inl plain) = absurd (never n.0 (subst Plain n.1 plain))
    go (inr r) = subst (λ l. Carry s l) n.1 r.1.1

pub observes : (s : Start) (h : History) (axis : ℕ) → output_after s h ≡ Hands (ItemObserve axis)
    → (l : Log) × (log_of s h ≡ Handed (ItemObserve axis) ∷ l) × Observing s l axis
unfolding handed
observes s h axis e = carried s h (Handed (ItemObserve axis)) (λ l p. p) (ap handed e)

pub records : (s : Start) (h : History) (r : Receipt) → output_after s h ≡ Hands (ItemRecord r)
    → (l : Log) × (log_of s h ≡ Handed (ItemRecord r) ∷ l) × Recording l r
unfolding handed
records s h r e = carried s h (Handed (ItemRecord r)) (λ l p. p) (ap handed e)

pub receipt-reports : (s : Start) (h : History) (r : Receipt) → output_after s h ≡ Answers (Submitted r) → Reported (dispatching (log_of s h)) r
unfolding handed dispatching
receipt-reports s h r e = let q = carried s h (Ended (Submitted r)) (λ l p. p) (ap handed e) in rw q.1 q.2

proper : (s : Start) (h : History) (c : ℕ) (p : List ℤ) → output_after s h ≡ Hands (ItemExecute c p) → Proper s (log_of s h) c p
unfolding handed
proper s h c p e = let q = carried s h (Handed (ItemExecute c p)) (λ l k. k) (ap handed e) in subst (λ l. Proper s l c p) (sym q.1) q.2

pub only-submissions : (s : Start) (h : History) (c : ℕ) (p : List ℤ) → output_after s h ≡ Hands (ItemExecute c p) → Carried (log_of s h) c p
only-submissions s h c p e = (proper s h c p e).0

submit-same : {a b : Submission} → Some (Submit a) ≡ Some (Submit b) → a ≡ b
submit-same e = cc

pub live-lease : (s : Start) (h : History) (c : ℕ) (p : List ℤ) → output_after s h ≡ Hands (ItemExecute c p)
    → (k : Carried (log_of s h) c p) → Leased s (log_of s h) k.submission
live-lease s h c p e k =
    let q = proper s h c p e in
    subst (λ o. Leased s (log_of s h) o) (submit-same (sym q.0.call ∙ k.call)) q.1

-- the orders of one life -------------------------------------------------------------------------------------------------

distinct : (s : Start) (h : History) → Distinct (orders (executed (log_of s h)))
distinct s h = go (split s (log_of s h) (phase_after s h) (invariant s h))
  where
    go : Plain (log_of s h) ⊎ ((b : Book) × I s (log_of s h) b) → Distinct (orders (executed (log_of s h)))
    go (inl plain) = rw (plain-executed (log_of s h) plain) tt
    go (inr r) = r.1.0.ordered.distinct

home : (s : Start) (h : History) (o : Action) → Mem o (orders (executed (log_of s h))) → o.boot_id ≡ s.boot_id
home s h o = go (split s (log_of s h) (phase_after s h) (invariant s h))
  where
    go : Plain (log_of s h) ⊎ ((b : Book) × I s (log_of s h) b) → Mem o (orders (executed (log_of s h))) → o.boot_id ≡ s.boot_id
    go (inl plain) = rw (plain-executed (log_of s h) plain) (λ m. absurd m)
    go (inr r) = r.1.0.ordered.home o

-- over all lives ---------------------------------------------------------------------------------------------------------

distinct_append : (xs ys : List Action) → Distinct xs → Distinct ys → ((o : Action) → Mem o xs → ¬ Mem o ys) → Distinct (xs ++ ys)
distinct_append [] ys d e h = e
distinct_append (x ∷ xs) ys d e h = (λ m. go (mem-split x xs ys m), distinct_append xs ys d.1 e (λ o m. h o (inr m)))
  where
    go : Mem x xs ⊎ Mem x ys → ⊥
    go (inl m) = d.0 m
    go (inr m) = h x (inl refl) m

abbrev boots : List Life → List ℕ
boots ls = map (λ l. l.start.boot_id) ls

boot-of : (ls : List Life) (o : Action) → Mem o (executed_in ls) → Mem o.boot_id (boots ls)
unfolding executed_in
boot-of [] o m = m
boot-of (l ∷ ls) o m = go (mem-split o (executed_by l) (executed_in ls) m) (boot-of ls o)
  where
    go : Mem o (executed_by l) ⊎ Mem o (executed_in ls) → (Mem o (executed_in ls) → Mem o.boot_id (boots ls))
        → (o.boot_id ≡ l.start.boot_id) ⊎ Mem o.boot_id (boots ls)
    go (inl n) rest = inl (home l.start (reverse l.inputs) o n)
    go (inr n) rest = inr (rest n)

pub once : (ls : List Life) → Distinct (boots ls) → Distinct (executed_in ls)
unfolding executed_in
once [] d = tt
once (l ∷ ls) d =
    distinct_append (executed_by l) (executed_in ls) (distinct l.start (reverse l.inputs)) (once ls d.1)
    (λ o m n. d.0 (subst (λ b. Mem b (boots ls)) (home l.start (reverse l.inputs) o m) (boot-of ls o n)))

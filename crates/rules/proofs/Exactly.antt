-- When a submission is admitted, and when it reaches execute: the parts `admitted` and `exactly` of demand 3. A submission is a tick,
-- which hands out neither observe nor execute, followed by the admission in the book that the tick leaves. Assumes nothing.
use Prim.Native.Nat.{ℕ}
use mathlib.Core.Bool.{◌&&◌, false≢true}
use mathlib.Core.List.{List, ◌∷◌, ◌++◌, append_assoc}
use mathlib.Core.Logic.{inl, inr, ◌↔◌}
use Rattle.std.specs.Prelude.{Option, Some, None}
use mathlib.Core.Path.{◌≡◌, refl, ap, ◌∙◌}
use lib.Dec.{leb}
use lib.IntN.{ℤ}
use Rattle.model.specs.declared.Capability.{Capability}
use Rattle.model.specs.declared.Lease.{Lease}
use Rattle.model.specs.declared.Observation.{Observation}
use Rattle.model.specs.declared.Reason.{Reason}
use Rattle.model.specs.declared.Receipt.{Receipt}
use Rattle.model.specs.declared.Submission.{Submission}
use Rattle.rules.specs.Book.{Book}
use Rattle.rules.specs.Receipts.{Progress}
use Rattle.rules.specs.Interaction.{Answer, Returned, Submitted, Interaction, Done}
use Rattle.rules.specs.Admission.{first_failing, is_armed, order_capability, lease_for, order_lease, admission, Verdict, Admits, Rejects, verdict, validate}
use Rattle.rules.specs.Lists.{Mem}
use Rattle.rules.specs.Admissible.{Admissible}
use Rattle.rules.specs.Rules.{record_receipt, tick, storm, reject, fail, dispatch, admit, submit}
use Rattle.rules.specs.Protocol.{Submit, Reply, Observed, Item, ItemObserve, ItemExecute, ItemFallback, ItemRecord, Start, begin}
use Rattle.rules.specs.Log.{History, log_of, book_before, Exchange, current}
use Rattle.rules.specs.Way.{observed, Runs, here, then}
use Rattle.rules.specs.Claim.{Passes, Clears}
use Rattle.rules.proofs.Records.{with-named}
use Rattle.rules.proofs.Admission.{admitted-exactly}
use Rattle.rules.proofs.Trees.{Follows, ends, records, OfFallback, either, follows-trip, items_at, first-item, Foreign, handed, Past, past, Rest, rest, Ended, quiet, Then, tick-then}
use Rattle.rules.proofs.InHand.{Ran, ran}

-- ---- a submission is its tick, followed by the admission

abbrev Admission : Submission → Book → Answer → Interaction → Type 0
Admission o = Then (λ b. admit (validate o b) o b)

submission : (o : Submission) (b : Book) → Follows OfFallback (Admission o) (tick o.now b (λ b. Done b Returned)) (begin (Submit o) b)
unfolding begin submit
submission o b = tick-then o.now _ b

-- ---- what the admission hands out

-- neither observe nor execute; receipts and answer are any
abbrev AnyReceipt : Receipt → Type 0
AnyReceipt r = Unit

abbrev Quiet : Interaction → Type 0
Quiet t = Follows AnyReceipt (Ended (λ a. Unit)) t t

-- the items that an admission brings
abbrev Driven : Item → Type 0
Driven = Foreign AnyReceipt

driven : (i : Item) → Driven i → Foreign OfFallback i
driven (ItemObserve axis) d = tt
driven (ItemExecute c p) d = tt
driven (ItemFallback axis r) d = d
driven (ItemRecord r) d = λ e. d tt

pub quiet-storm : {Q : Receipt → Type 0} {P : Answer → Type 0} → ((r : Receipt) → OfFallback r → Q r) → (now : ℕ) (r : Receipt) (b : Book)
    → P (Submitted r) → Follows Q (Ended P) (storm now r b) (storm now r b)
unfolding storm
quiet-storm own now r b p =
    either (leb b.config.invalid_limit b.invalid_count && is_armed b.state)
    (follows-trip own now (λ b. ends (refl, p)) Reason.InvalidStorm b) (ends (refl, p))

quiet-reject : (reason : Reason) (o : Submission) (b : Book) → Quiet (reject reason o b)
unfolding reject record_receipt
quiet-reject reason o b = records tt (quiet-storm (λ r e. tt) o.now _ _ tt)

quiet-fail : (c : Capability) (reason : Reason) (p : Progress) (o : Submission) (b : Book) → Quiet (fail c reason p o b)
unfolding fail record_receipt
quiet-fail c reason p o b = records tt (follows-trip (λ r e. tt) o.now (λ b. ends (refl, tt)) reason _)

-- observe or execute only if every check holds
checked : (o : Submission) (b : Book) {v : Interaction} {rs : List Reply} {is : List Item} (i : Item) → Driven i
    → Runs (admit (validate o b) o b) rs is v → Mem i (is ++ items_at v) → Admissible o b
unfolding validate verdict admit
checked o b {v} {rs} {is} i d w m = go (first_failing (admission o b)) refl w
  where
    go : (f : Option Reason) → first_failing (admission o b) ≡ f
        → Runs (admit (verdict f (order_capability o b) (order_lease o b)) o b) rs is v → Admissible o b
    go None e w = (admitted-exactly o b).0 e
    go (Some reason) e w = absurd (quiet i d (quiet-reject reason o b) w m)

-- execute only if the first observation is good
seen_first : (a : Verdict) (o : Submission) (b : Book) {v : Interaction} {rs : List Reply} {is : List Item} (c : ℕ) (p : List ℤ)
    → Runs (admit a o b) rs is v → Mem (ItemExecute c p) (is ++ items_at v)
    → (seen : Observation) × (after : List Reply) × (rs ≡ Observed (Some seen) ∷ after)
unfolding admit dispatch items_at
seen_first (Rejects reason) o b c p w m = absurd (quiet (ItemExecute c p) tt (quiet-reject reason o b) w m)
seen_first (Admits y l) o b c p here (inl q) = absurd (false≢true (cc))
seen_first (Admits y l) o b c p here (inr m) = absurd m
seen_first (Admits y l) o b c p (then {rs = rs} (observed {o = Some seen}) w) m = (seen, rs, refl)
seen_first (Admits y l) o b c p (then (observed {o = None}) w) (inl q) = absurd (false≢true (cc))
seen_first (Admits y l) o b c p (then (observed {o = None}) w) (inr m) = absurd (quiet (ItemExecute c p) tt (quiet-fail y _ _ o _) w m)

after-observation : (c : Capability) (l : Lease) (o : Submission) (b : Book) {seen : Observation} {v : Interaction} {rs : List Reply}
    {is : List Item} → Runs (admit (Admits c l) o b) (Observed (Some seen) ∷ rs) is v
    → Mem (ItemExecute c.id o.action.parameters) (is ++ items_at v)
unfolding admit dispatch items_at
after-observation c l o b (then observed w) = inr (first-item _ w (inl refl))

-- where every check holds, observe is handed out, and execute after a good observation
module _ (o : Submission) (b : Book) (a : Admissible o b) where
  pub admits : validate o b ≡ Admits a.capability a.lease
  unfolding validate verdict order_capability order_lease lease_for
  admits = rw ((admitted-exactly o b).1 a, with-named a.known, a.leased)

  observes : {v : Interaction} {rs : List Reply} {is : List Item}
      → Runs (admit (validate o b) o b) rs is v → Mem (ItemObserve a.capability.resource) (is ++ items_at v)
  unfolding admit items_at
  observes w = first-item _ (rw admits at w) (inl refl)

  executes : {seen : Observation} {v : Interaction} {rs after : List Reply} {is : List Item}
      → Runs (admit (validate o b) o b) rs is v → rs ≡ Observed (Some seen) ∷ after
      → Mem (ItemExecute o.action.capability o.action.parameters) (is ++ items_at v)
  executes w e =
      rw (← a.known.own)
      (after-observation a.capability a.lease o b (rw (admits, e) at w))

-- ---- both parts, for a submission that has run so far

module _ (b : Book) (o : Submission) (x : Exchange) (k : Ran b x) (call : x.call ≡ Submit o) where
  run : Runs (begin (Submit o) b) x.replies k.answered k.at
  run = rw call at k.run

  ticked : (i : Item) → Driven i → Mem i x.items
      → Past OfFallback (Admission o) (tick o.now b (λ b. Done b Returned)) k.at x.replies k.answered
  ticked i d m = past (submission o b) run (handed i (driven i d) (rw k.items at m))

  passes : (i : Item) → Driven i → Mem i x.items → Passes b o x
  passes i d m =
      let p = ticked i d m in
      record {
        book = p.book;
        ticked =
            record {
              ticking = p.first;
              tick_items = p.first_items;
              run = rw p.end.0 at p.ended;
              later = p.second;
              later_items = p.second_items ++ items_at k.at;
              replies = p.split;
              items =
                  k.items ∙ ap (λ (is : List Item). is ++ items_at k.at) p.split_items
                  ∙ append_assoc p.first_items p.second_items (items_at k.at);
            };
        admissible = checked o p.book i d (rw p.end.1 at p.left) (p.among i (driven i d) (rw k.items at m));
      }

  left : (p : Passes b o x) → Rest (Admission o) p.book Returned p.ticked.later k.at k.answered
  left p = rest (submission o b) p.ticked.run (rw p.ticked.replies at run)

  is-admitted : ((axis : ℕ) × Mem (ItemObserve axis) x.items) ↔ Passes b o x
  is-admitted = (
    λ m. passes (ItemObserve m.0) tt m.1,
    λ p. let r = left p in
        (p.admissible.capability.resource, rw k.items (r.among _ (observes o p.book p.admissible (rw r.end.1 at r.left)))),
  )

  is-cleared : Mem (ItemExecute o.action.capability o.action.parameters) x.items ↔ Clears b o x
  unfolding passes
  is-cleared = (
    λ m. let i : Item = ItemExecute o.action.capability o.action.parameters in
        let p = ticked i tt m in
        let g = seen_first (validate o p.book) o p.book _ _ (rw p.end.1 at p.left) (p.among i tt (rw k.items at m)) in
        record { passes = passes i tt m; seen = g.0; after = g.1; good = g.2 },
    λ c. let p = c.passes in
        let r = left p in
        rw k.items (r.among _ (executes o p.book p.admissible (rw r.end.1 at r.left) c.good)),
  )

pub admitted-iff : (s : Start) (h : History) (x : Exchange) (b : Book) → current (log_of s h) ≡ Some x → book_before s h ≡ Some b
    → (o : Submission) → x.call ≡ Submit o → ((axis : ℕ) × Mem (ItemObserve axis) x.items) ↔ Passes b o x
admitted-iff s h x b e f o call = is-admitted b o x (ran s h x b e f) call

pub exactly : (s : Start) (h : History) (x : Exchange) (b : Book) → current (log_of s h) ≡ Some x → book_before s h ≡ Some b
    → (o : Submission) → x.call ≡ Submit o
    → Mem (ItemExecute o.action.capability o.action.parameters) x.items ↔ Clears b o x
exactly s h x b e f o call = is-cleared b o x (ran s h x b e f) call

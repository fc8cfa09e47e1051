-- What a refused call leaves: all as its opening tick left it, or Faulted after fallbacks where the driver failed. Assumes nothing.
use Prim.Native.Nat.{ℕ, ◌-◌, ◌<◌, ◌≤◌}
use mathlib.Core.Bool.{Bool, true, false, cond, ◌&&◌, ◌||◌, false≢true}
use mathlib.Core.List.{List, [], ◌∷◌}
use mathlib.Core.Logic.{◌⊎◌, inl, inr, ⊎_elim, ◌≢◌}
use Rattle.std.specs.Prelude.{Option, Some, None}
use mathlib.Core.Path.{◌≡◌, refl, sym, ap, ◌∙◌, subst}
use borrow.Author.Tests.{ltb-true, leb-true}
use lib.Dec.{ltb}
use Rattle.model.specs.declared.Lease.{Lease}
use Rattle.model.specs.declared.LeaseRequest.{LeaseRequest}
use Rattle.model.specs.declared.Reason.{Reason}
use Rattle.model.specs.declared.Receipt.{Receipt}
use Rattle.model.specs.declared.Renewal.{Renewal}
use Rattle.model.specs.declared.RuntimeState.TheVariants as State
use Rattle.rules.specs.Book.{Book}
use Rattle.rules.specs.With.{with_leases, with_active, with_receipts, with_next_receipt, with_epoch, with_state}
use Rattle.rules.specs.Receipts.{kept}
use Rattle.rules.specs.Interaction.{Answer, Succeeded, Refused, Interaction, Done, Record}
use Rattle.rules.specs.Admission.{first_failing, is_stale, is_estopped, ready, acquire_checks, axes, held_axis, lease_on, held_lease, is_some, renew_checks}
use Rattle.rules.specs.Lists.{Mem}
use Rattle.rules.specs.Rules.{used_axes, bump_epoch, record_receipt, refresh_state, cleared, fallback, tripped, fallbacks, trip, tick, exhausted, meets_estop, recovered, recoveries, recover, recover_local, leased, grant, acquire, extend, renewed, renew, canceled, cancel}
use Rattle.rules.specs.Protocol.{Call, RecoverLocal, Acquire, Renew, Cancel, Reply, FellBack, Recorded, Item, ItemFallback, ItemRecord, Answers, Start, Idle, book_in, begin}
use Rattle.rules.specs.Log.{History, phase_after, output_after, log_of, book_before, Exchange, current}
use Rattle.rules.specs.Way.{fell_back, recorded, Runs, then, Ticked}
use Rattle.rules.specs.StateFacts.{LeaseStands}
use Rattle.rules.specs.Refusals.{Refusable, Refusable.acquire as of-acquire, Refusable.renew as of-renew, Refusable.cancel as of-cancel, Refusable.recover as of-recover, Refusing, Refusing.acquire as why-acquire, Refusing.renew as why-renew, Refusing.cancel as why-cancel, Refusing.estopped as why-estopped, Refusing.unsafe as why-unsafe, LeftAsTicked, Driven, Driven.cancel as by-cancel, Driven.recover as by-recover, LeftFaulted}
use Rattle.rules.proofs.Basics.{one_of}
use Rattle.rules.proofs.Admission.{none-fails}
use Rattle.rules.proofs.Checks.{other, first-other, held}
use Rattle.rules.proofs.Trees.{over, at-end, noted}
use Rattle.rules.proofs.Once.{holds}
use Rattle.rules.proofs.StateFacts.{state-facts}
use Rattle.rules.proofs.Ends.{EndedAt, ended, Opened, opens, ticked-by, before-idle}
use Rattle.rules.proofs.Suits.{suits, refusable}

-- ---- what is left, past the tick

-- the reason is not the driver's and has its cause, the book is as it was, and nothing was handed out
record Unmoved (c : Call) (reason : Reason) (before after : Book) (rs : List Reply) (is : List Item) : Type 0 where
  no-driver : reason ≢ Reason.Driver
  why : Refusing c before reason
  same : before ≡ after
  no-reply : rs ≡ []
  nothing : is ≡ []

-- these axes fell back for this reason
pub record Swept (axes : List ℕ) (fell : Reason) (before after : Book) (is : List Item) : Type 0 where
  pub capabilities : after.capabilities ≡ before.capabilities
  pub each : (axis : ℕ) → Mem axis axes → Mem (ItemFallback axis fell) is

-- the driver failed: every used axis fell back, and the runtime is Faulted
record Failed (fell reason : Reason) (before after : Book) (rs : List Reply) (is : List Item) : Type 0 where
  driver : reason ≡ Reason.Driver
  failed : Mem (FellBack false) rs
  state : after.state ≡ State.Faulted
  swept : Swept (used_axes before.capabilities) fell before after is

-- ---- acquire, renew

unmoved : {rs : List Reply} {is : List Item} {c : Call} {reason why : Reason} {b b' : Book} → why ≢ Reason.Driver → Refusing c b why
    → Runs (Done b (Refused why)) rs is (Done b' (Refused reason)) → Unmoved c reason b b' rs is
unmoved {c = c} {reason = reason} {why = why} {b = b} n cause w =
    let k = at-end w in
    let answer = k.answer in
    let same : why ≡ reason = cc in
    record {
      no-driver = λ e. n (same ∙ e);
      why = subst (Refusing c b) same cause;
      same = k.book;
      no-reply = k.replies;
      nothing = k.items;
    }

refused-grant : {rs : List Reply} {is : List Item} {reason : Reason} {b' : Book} (f : Option Reason) (q : LeaseRequest) (now : ℕ) (b : Book)
    → first_failing (acquire_checks q now b) ≡ f → Runs (grant f q now b) rs is (Done b' (Refused reason))
    → Unmoved (Acquire q now) reason b b' rs is
unfolding grant leased record_receipt acquire_checks ready
refused-grant (Some why) q now b e w = unmoved (first-other Reason.Driver (acquire_checks q now b) why refl e) (why-acquire e) w
refused-grant None q now b e w = absurd (false≢true (let e = (at-end (noted w).left).answer in cc))

authority : Reason.Authority ≢ Reason.Driver
authority = other Reason.Driver Reason.Authority refl

-- a renewal whose checks pass finds its lease
never-refused : {A : Type 0} {rs : List Reply} {is : List Item} {reason : Reason} {b' : Book} (q : Renewal) (axis : Option ℕ) (l : Option Lease)
    (b : Book) → lease_on axis b ≡ l → is_some l ≡ true → Runs (extend q axis l b) rs is (Done b' (Refused reason)) → A
unfolding extend leased record_receipt lease_on is_some
never-refused q None l b e k w = absurd (false≢true (ap is_some e ∙ k))
never-refused q (Some axis) None b e k w = absurd (false≢true k)
never-refused q (Some axis) (Some l) b e k w = absurd (false≢true (let e = (at-end (noted w).left).answer in cc))

refused-renewal : {rs : List Reply} {is : List Item} {reason : Reason} {b' : Book} (f : Option Reason) (q : Renewal) (b : Book)
    → first_failing (renew_checks q b) ≡ f → Runs (renewed f q b) rs is (Done b' (Refused reason)) → Unmoved (Renew q) reason b b' rs is
unfolding renewed renew_checks ready held_lease
refused-renewal (Some why) q b e w = unmoved (first-other Reason.Driver (renew_checks q b) why refl e) (why-renew e) w
refused-renewal None q b e w =
    never-refused q (held_axis q.owner q.lease_id b) _ b refl (none-fails (renew_checks q b) e).1.1.1.1.1.0 w

-- ---- fallbacks

-- a fallback and its receipt, and how a run goes on from there
pub record Fell (axis : ℕ) (reason : Reason) (b : Book) (next : Bool → Book → Interaction) (rs : List Reply) (is : List Item)
    (v : Interaction) : Type 0 where
  pub ok : Bool
  pub receipt : Receipt
  pub later : List Reply
  pub later_items : List Item
  pub replies : rs ≡ FellBack ok ∷ (Recorded ∷ later)
  pub items : is ≡ ItemFallback axis reason ∷ (ItemRecord receipt ∷ later_items)
  pub left : Runs (next ok (kept receipt (cleared axis b))) later later_items v

pub fell : {rs : List Reply} {is : List Item} {b' : Book} {a : Answer} (axis : ℕ) (reason : Reason) (now : ℕ) (b : Book)
    (next : Bool → Book → Interaction) → Runs (fallback axis reason now b next) rs is (Done b' a) → Fell axis reason b next rs is (Done b' a)
unfolding fallback record_receipt
fell {b' = b'} {a = a} axis reason now b next (then (fell_back {ok = ok}) w) = go w
  where
    go : {r : Receipt} {rs : List Reply} {is : List Item}
        → Runs (Record r (kept r (cleared axis b)) (next ok (kept r (cleared axis b)))) rs is (Done b' a)
        → Fell axis reason b next (FellBack ok ∷ rs) (ItemFallback axis reason ∷ is) (Done b' a)
    go {r} (then {rs = rs} {is = is} recorded w) =
        record { ok = ok; receipt = r; later = rs; later_items = is; replies = refl; items = refl; left = w }

swept_none : {fell : Reason} {before after : Book} {is : List Item} → after.capabilities ≡ before.capabilities → Swept [] fell before after is
swept_none e = record { capabilities = e; each = λ axis m. absurd m }

-- one more, before these
swept-more : {rest : List ℕ} {reason : Reason} {b after : Book} {rs : List Reply} {is : List Item} {next : Bool → Book → Interaction}
    {v : Interaction} (axis : ℕ) (k : Fell axis reason b next rs is v) → Swept rest reason (kept k.receipt (cleared axis b)) after k.later_items
    → Swept (axis ∷ rest) reason b after is
unfolding cleared bump_epoch with_epoch with_leases with_active kept with_next_receipt with_receipts
swept-more {rest} {reason} {is = is} axis k m = record { capabilities = m.capabilities; each = λ a n. rw k.items (each a n) }
  where
    each : (a : ℕ) → Mem a (axis ∷ rest) → Mem (ItemFallback a reason) (ItemFallback axis reason ∷ (ItemRecord k.receipt ∷ k.later_items))
    each a (inl q) = inl (ap (λ (n : ℕ). ItemFallback n reason) q)
    each a (inr n) = inr (inr (m.each a n))

pub swept-fallbacks : {rs : List Reply} {is : List Item} {b' : Book} {a' : Answer} (a : Answer) (on : List ℕ) (reason : Reason) (now : ℕ) (b : Book)
    → Runs (fallbacks on reason now b (λ b. Done b a)) rs is (Done b' a') → Swept on reason b b' is × ((b'.state ≡ b.state) × (a ≡ a'))
unfolding fallbacks cleared bump_epoch with_epoch with_leases with_active kept with_next_receipt with_receipts
swept-fallbacks a [] reason now b w =
    let same = sym (at-end w).book in
    (swept_none (ap (λ (b : Book). b.capabilities) same), (ap (λ (b : Book). b.state) same, (at-end w).answer))
swept-fallbacks {rs = rs} a (axis ∷ rest) reason now b w =
    let k = fell axis reason now b _ w in
    let m = swept-fallbacks {rs = k.later} a rest reason now _ k.left in
    (swept-more axis k m.0, m.1)

-- ---- recover_local

swept-recoveries : {rs : List Reply} {is : List Item} {reason : Reason} {b' : Book} (on : List ℕ) (good : Bool) (now : ℕ) (b : Book)
    → Runs (recoveries on good now b) rs is (Done b' (Refused reason))
    → Swept on Reason.Recovered b b' is × ((b'.state ≡ State.Faulted) × (reason ≡ Reason.Driver))
unfolding recoveries recovered with_state
swept-recoveries [] true now b w = absurd (false≢true (let e = (at-end w).answer in cc))
swept-recoveries [] false now b w =
    let answer = (at-end w).answer in
    let same = sym (at-end w).book in
    (swept_none (ap (λ (b : Book). b.capabilities) same), (ap (λ (b : Book). b.state) same, cc))
swept-recoveries {rs = rs} (axis ∷ rest) good now b w =
    let k = fell axis Reason.Recovered now b _ w in
    let m = swept-recoveries {rs = k.later} rest (good && k.ok) now _ k.left in
    (swept-more axis k m.0, m.1)

-- one of them failed, unless one had before
recovery-failed : {rs : List Reply} {is : List Item} {reason : Reason} {b' : Book} (on : List ℕ) (good : Bool) (now : ℕ) (b : Book)
    → Runs (recoveries on good now b) rs is (Done b' (Refused reason)) → (good ≡ false) ⊎ Mem (FellBack false) rs
unfolding recoveries recovered
recovery-failed [] true now b w = absurd (false≢true (let e = (at-end w).answer in cc))
recovery-failed [] false now b w = inl refl
recovery-failed {rs} (axis ∷ rest) good now b w =
    let k = fell axis Reason.Recovered now b _ w in
    rw k.replies (go good k.ok k.later (recovery-failed {rs = k.later} rest (good && k.ok) now _ k.left))
  where
    go : (good ok : Bool) (later : List Reply) → ((good && ok) ≡ false) ⊎ Mem (FellBack false) later
        → (good ≡ false) ⊎ Mem (FellBack false) (FellBack ok ∷ (Recorded ∷ later))
    go good ok later (inr m) = inr (inr (inr m))
    go false ok later (inl e) = inl refl
    go true ok later (inl e) = inr (inl (ap FellBack (sym e)))

-- why a recovery is unsafe
cause-of : (now : ℕ) (b : Book) → (ltb now b.last_tick || (is_stale now b || exhausted b)) ≡ true
    → (now < b.last_tick) ⊎ ((b.config.state_ttl_ms ≤ now - b.state_at) ⊎ (exhausted b ≡ true))
unfolding is_stale
cause-of now b e =
    ⊎_elim (λ h. inl (ltb-true _ _ h)) (λ h. inr (⊎_elim (λ k. inl (leb-true _ _ k)) inr (one_of (is_stale now b) (exhausted b) h)))
    (one_of (ltb now b.last_tick) _ e)

refused-recovery : {rs : List Reply} {is : List Item} {reason : Reason} {b' : Book} (now : ℕ) (b : Book)
    → Runs (recover now b) rs is (Done b' (Refused reason))
    → Unmoved (RecoverLocal now) reason b b' rs is ⊎ Failed Reason.Recovered reason b b' rs is
unfolding recover
refused-recovery {rs} {is} {reason} {b'} now b w =
    go (meets_estop b.flags b.config) refl (ltb now b.last_tick || (is_stale now b || exhausted b)) refl w
  where
    go : (t : Bool) → meets_estop b.flags b.config ≡ t → (u : Bool) → (ltb now b.last_tick || (is_stale now b || exhausted b)) ≡ u → Runs
        (cond t (Done b (Refused Reason.Estop))
        (cond u (Done b (Refused Reason.Precondition)) (recoveries (used_axes b.capabilities) true now b))) rs is (Done b' (Refused reason))
        → Unmoved (RecoverLocal now) reason b b' rs is ⊎ Failed Reason.Recovered reason b b' rs is
    go true p u q w = inl (unmoved (other Reason.Driver Reason.Estop refl) (why-estopped p) w)
    go false p true q w = inl (unmoved (other Reason.Driver Reason.Precondition refl) (why-unsafe p (cause-of now b q)) w)
    go false p false q w =
        let k = swept-recoveries (used_axes b.capabilities) true now b w in
        let failed = ⊎_elim (λ e. absurd (false≢true (sym e))) (λ m. m) (recovery-failed (used_axes b.capabilities) true now b w) in
        inr record { driver = k.1.1; failed = failed; state = k.1.0; swept = k.0 }

-- ---- cancel

-- a fallback has failed where the runtime is Armed, and every used axis falls back
failed-cancel : {rs : List Reply} {is : List Item} {a : Answer} {b b' : Book} {next : Bool → Book → Interaction} {v : Interaction} (axis now : ℕ)
    → (k : Fell axis Reason.Canceled b next rs is v) → b.state ≡ State.Armed
    → Runs (trip Reason.Driver now (kept k.receipt (cleared axis b)) (λ b₂. Done b₂ (Refused Reason.Driver))) k.later k.later_items
    (Done b' a)
    → Swept (used_axes b.capabilities) Reason.Driver b b' is × ((b'.state ≡ State.Faulted) × (a ≡ Refused Reason.Driver))
unfolding trip cleared bump_epoch with_epoch with_leases with_active kept with_next_receipt with_receipts with_state tripped is_estopped
failed-cancel {is = is} {b = b} {b' = b'} axis now k armed w =
    let m = swept-fallbacks _ (used_axes b.capabilities) Reason.Driver now _ w in (
      record { capabilities = m.0.capabilities; each = λ i n. rw k.items (inr (inr (m.0.each i n))) },
      (m.1.0 ∙ rw armed refl, sym m.1.1),
    )

refused-cancel : {rs : List Reply} {is : List Item} {reason : Reason} {b' : Book} (axis : Option ℕ) (owner id now : ℕ) (b : Book)
    → held_axis owner id b ≡ axis → (LeaseStands b → b.state ≡ State.Armed) → Runs (canceled axis now b) rs is (Done b' (Refused reason))
    → Unmoved (Cancel owner id now) reason b b' rs is ⊎ Failed Reason.Driver reason b b' rs is
unfolding held_axis canceled
refused-cancel None owner id now b e armed w = inl (unmoved authority (why-cancel e) w)
refused-cancel {rs} {is} {reason} {b'} (Some axis) owner id now b e armed w =
    let k = fell axis Reason.Canceled now b _ w in inr (go k k.ok k.replies k.left)
  where
    next : Bool → Book → Interaction
    next ok b₁ = cond ok (Done (refresh_state b₁) Succeeded) (trip Reason.Driver now b₁ (λ b₂. Done b₂ (Refused Reason.Driver)))

    go : (k : Fell axis Reason.Canceled b next rs is (Done b' (Refused reason))) (ok : Bool) → rs ≡ FellBack ok ∷ (Recorded ∷ k.later)
        → Runs (next ok (kept k.receipt (cleared axis b))) k.later k.later_items (Done b' (Refused reason))
        → Failed Reason.Driver reason b b' rs is
    go k true q w = absurd (false≢true (let e = (at-end w).answer in cc))
    go k false q w =
        let m = failed-cancel axis now k (armed (let h = held owner id b axes axis e in (axis, h.lease, h.stands))) w in
        let answer = m.1.1 in
        record { driver = cc; failed = rw q (inl refl); state = m.1.0; swept = m.0 }

-- ---- a call that is refused

-- as the tick left it, or Faulted
abbrev Remains : Call → Reason → Book → Book → List Reply → List Item → Type 0
Remains c reason before after rs is =
    Unmoved c reason before after rs is ⊎ ((fallen : Reason) × Driven c fallen × Failed fallen reason before after rs is)

record RefusedAs (x : Exchange) (before : Book) (reason : Reason) (after : Book) : Type 0 where
  now : ℕ
  call : Refusable x.call now
  book : Book
  ticked : Ticked now before x book
  left : Remains x.call reason book after ticked.later ticked.later_items

module _ (s : Start) (h : History) (x : Exchange) (before : Book) (f : book_before s h ≡ Some before) (reason : Reason) (after : Book) where
  -- after the tick the runtime is Armed where a lease stands
  armed : {is : List Item} {v : Interaction} {now : ℕ} {next : Book → Interaction} (o : Opened now before next x.replies is v)
      → LeaseStands o.book → o.book.state ≡ State.Armed
  armed {now = now} o =
      let idle = before-idle s h before f in
      ((state-facts s idle.0).tick-revokes before idle.1 now o.ticking o.tick_items o.book o.ticked).armed

  refused-by : (next : Book → Interaction) (now : ℕ) → Refusable x.call now
      → Runs (tick now before next) x.replies x.items (Done after (Refused reason))
      → ((o : Opened now before next x.replies x.items (Done after (Refused reason)))
      → Remains x.call reason o.book after o.later o.later_items)
      → RefusedAs x before reason after
  refused-by next now call w k =
      let o = opens now next before w (over tt) in
      record { now = now; call = call; book = o.book; ticked = ticked-by x o o.later_items o.items; left = k o }

  refused_as : (c : Call) (now : ℕ) → Refusable c now → x.call ≡ c → Runs (begin c before) x.replies x.items (Done after (Refused reason))
      → RefusedAs x before reason after
  unfolding begin acquire renew cancel recover_local
  refused_as c now (of-acquire {q = q}) e w =
      refused-by _ now (rw e of-acquire) w (λ o. rw e (inl (refused-grant _ q now o.book refl o.left)))
  refused_as c now (of-renew {q = q}) e w = refused-by _ now (rw e of-renew) w (λ o. rw e (inl (refused-renewal _ q o.book refl o.left)))
  refused_as c now (of-cancel {owner = owner} {id = id}) e w =
      refused-by _ now (rw e of-cancel) w
      (λ o. rw e (⊎_elim inl (λ k. inr (Reason.Driver, by-cancel, k)) (refused-cancel _ owner id now o.book refl (armed o) o.left)))
  refused_as c now of-recover e w =
      refused-by _ now (rw e of-recover) w
      (λ o. rw e (⊎_elim inl (λ k. inr (Reason.Recovered, by-recover, k)) (refused-recovery now o.book o.left)))

module _ (s : Start) (h : History) (x : Exchange) (before : Book) (reason : Reason) (out : output_after s h ≡ Answers (Refused reason))
    (e : current (log_of s h) ≡ Some x) (f : book_before s h ≡ Some before) where
  at : EndedAt before x (Refused reason) (phase_after s h)
  at = ended s h x before e f (Refused reason) out

  refused : RefusedAs x before reason at.book
  refused =
      let k = refusable (suits x.call before at.run) in
      refused_as s h x before f reason at.book x.call k.0 k.1 refl at.run

pub refused-call : (s : Start) (h : History) (x : Exchange) (b : Book) (reason : Reason) → output_after s h ≡ Answers (Refused reason)
    → current (log_of s h) ≡ Some x → book_before s h ≡ Some b → reason ≢ Reason.Driver → LeftAsTicked s h x b reason
refused-call s h x b reason out e f n = go k.left
  where
    k : RefusedAs x b reason (at s h x b reason out e f).book
    k = refused s h x b reason out e f

    go : Remains x.call reason k.book (at s h x b reason out e f).book k.ticked.later k.ticked.later_items
        → LeftAsTicked s h x b reason
    go (inl u) =
        record {
          now = k.now;
          call = k.call;
          book = k.book;
          ticked = k.ticked;
          why = u.why;
          no-reply = u.no-reply;
          nothing-more = u.nothing;
          left = (at s h x b reason out e f).idle ∙ ap Idle (sym u.same);
        }
    go (inr m) = absurd (n m.2.driver)

pub refused-driver : (s : Start) (h : History) (x : Exchange) (b : Book) → output_after s h ≡ Answers (Refused Reason.Driver)
    → current (log_of s h) ≡ Some x → book_before s h ≡ Some b → LeftFaulted s h x b
unfolding book_in
refused-driver s h x b out e f = go k.left
  where
    end : EndedAt b x (Refused Reason.Driver) (phase_after s h)
    end = at s h x b Reason.Driver out e f

    k : RefusedAs x b Reason.Driver end.book
    k = refused s h x b Reason.Driver out e f

    -- the capabilities are the start's
    own : end.book.capabilities ≡ s.capabilities
    own = (holds s h end.book (ap book_in end.idle)).0.capabilities

    go : Remains x.call Reason.Driver k.book end.book k.ticked.later k.ticked.later_items → LeftFaulted s h x b
    go (inl u) = absurd (u.no-driver refl)
    go (inr m) =
        let sw = m.2.swept in
        record {
          now = k.now;
          time = k.call;
          reason = m.0;
          call = m.1;
          ticked-book = k.book;
          ticked = k.ticked;
          fell-back = λ axis n. sw.each axis (rw (← sw.capabilities, own) n);
          failed = m.2.failed;
          book = end.book;
          left = end.idle;
          state = m.2.state;
        }

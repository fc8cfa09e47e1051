-- Each call has its own kind of answer; an order's is its own receipt, which was handed out; the lease that a grant or a renewal answers is
-- what was asked for, and stands. Assumes nothing.
use Prim.Native.Nat.{ℕ, zero, suc, ◌<◌}
use mathlib.Core.Bool.{true, false≢true}
use mathlib.Core.List.{List, [], ◌∷◌, ◌++◌}
use mathlib.Core.Logic.{inl, inr, ⊎_elim}
use Rattle.std.specs.Prelude.{Option, Some, None}
use Rattle.std.proofs.lemmas.Option.{none-some}
use Rattle.model.proofs.Options.{some-injective}
use mathlib.Core.Path.{◌≡◌, refl, sym, ap, ◌∙◌, subst}
use native.Mathlib.Omega.{arith}
use lib.ListN.{length, length-set, get_or}
use lib.Seq.{get_or-set_same}
use Rattle.model.specs.declared.Decision.TheVariants as Decision
use Rattle.model.specs.declared.Lease.{Lease}
use Rattle.model.specs.declared.LeaseRequest.{LeaseRequest}
use Rattle.model.specs.declared.Reason.{Reason}
use Rattle.model.specs.declared.Receipt.{Receipt}
use Rattle.model.specs.declared.Renewal.{Renewal}
use Rattle.model.specs.Soundness.{axis_used}
use Rattle.model.proofs.Tests.{and_both}
use Rattle.rules.specs.Book.{Book, lease_at}
use Rattle.rules.specs.With.{with_leases, with_receipts, with_next_receipt, with_next_lease, with_epoch, with_state}
use Rattle.rules.specs.Receipts.{kept, numbered, event}
use Rattle.rules.specs.Interaction.{Answer, Returned, Leased, Submitted, Interaction, Done}
use Rattle.rules.specs.Admission.{first_failing, ready, valid_request, acquire_checks, axes, held_axis, lease_on, held_lease, renew_checks}
use Rattle.rules.specs.Lists.{Mem}
use Rattle.rules.specs.Rules.{bump_epoch, record_receipt, refresh_state, tick, new_lease, granted, leased, grant, acquire, extended, extend, renewed, renew}
use Rattle.rules.specs.Protocol.{Call, Acquire, Renew, Reply, Item, ItemRecord, Answers, Start, book_in, begin}
use Rattle.rules.specs.Log.{History, phase_after, output_after, log_of, book_before, Exchange, current}
use Rattle.rules.specs.Way.{recorded, Runs, then, Ticked}
use Rattle.rules.specs.Grantable.{Grantable}
use Rattle.rules.specs.AnswerFacts.{AnswersTo, acquires, renews, OfOrder, OrderAnswered, Asked, Asked.granted as asked-grant, Asked.renewed as asked-renewal, LeaseLeft, LeaseAnswered}
use Rattle.rules.proofs.Admission.{none-fails}
use Rattle.rules.proofs.Checks.{held}
use Rattle.rules.proofs.Executed.{observed-not-rejected}
use Rattle.rules.proofs.Grantable.{grantable, grantable-checked, renewable}
use Rattle.rules.proofs.Axes.{used_low}
use Rattle.rules.proofs.Trees.{over, at-end, noted}
use Rattle.rules.proofs.InHand.{begun}
use Rattle.rules.proofs.Once.{holds}
use Rattle.rules.proofs.Ends.{EndedAt, ended, Opened, opens, resumes, ticked-by}
use Rattle.rules.proofs.Suits.{submission, Settled, told, suits}

-- ---- the kind, and an order

module _ (s : Start) (h : History) (x : Exchange) (a : Answer) (out : output_after s h ≡ Answers a) (e : current (log_of s h) ≡ Some x) where
  at-answer : (b : Book) × EndedAt b x a (phase_after s h)
  at-answer = let b = begun s h x e in (b.0, ended s h x b.0 e b.1 a out)

  pub kind-answered : AnswersTo x.call a
  kind-answered = suits x.call at-answer.0 at-answer.1.run

pub order-answered : (s : Start) (h : History) (x : Exchange) (r : Receipt) → output_after s h ≡ Answers (Submitted r)
    → current (log_of s h) ≡ Some x → OrderAnswered x r
unfolding at-answer
order-answered s h x r out e =
    let order = submission (kind-answered s h x (Submitted r) out e) in
    let at = at-answer s h x (Submitted r) out e in
    let t = told x.call order.0 at.0 order.1 at.1.run in
    let answer = t.0.answer in
    let same : t.0.receipt ≡ r = cc in
    record {
      order = order.0;
      call = order.1;
      own = subst (OfOrder order.0) same t.0.own;
      handed = subst (λ r. Mem (ItemRecord r) x.items) same t.0.handed;
      admitted = ⊎_elim inl (λ d. inr (λ axis m. observed-not-rejected s h x at.0 r out e (begun s h x e).1 axis m d, d))
          (subst (Settled x.items) same t.1);
    }

-- ---- the answer of a grant or a renewal

-- an axis on which a lease stands is within the list
within : (ls : List (Option Lease)) (axis : ℕ) (l : Lease) → get_or ls axis None ≡ Some l → axis < length ls
within [] axis l e = absurd (none-some l e)
within (o ∷ ls) zero l e = omega arith
within (o ∷ ls) (suc axis) l e = let k = within ls axis l e in omega arith

-- the receipt of a lease was handed out and names it; beside it nothing that matters here has changed
record Gave (axis : ℕ) (l : Lease) (reason : Reason) (b after : Book) (is : List Item) : Type 0 where
  receipt : Receipt
  handed : is ≡ ItemRecord receipt ∷ []
  control : receipt.decision ≡ Decision.Control
  why : receipt.reason ≡ reason
  lease : receipt.lease_id ≡ l.id
  owner : receipt.principal ≡ l.owner
  on : receipt.resource ≡ axis
  leases : after.leases ≡ b.leases
  capabilities : after.capabilities ≡ b.capabilities
  active : after.active ≡ b.active
  count : after.invalid_count ≡ b.invalid_count
  stamp : after.state_at ≡ b.state_at
  last_tick : after.last_tick ≡ b.last_tick
  next_lease : after.next_lease ≡ b.next_lease

gave : {rs : List Reply} {is : List Item} {after : Book} {answer : Lease} (axis : ℕ) (l : Lease) (reason : Reason) (now : ℕ) (b : Book)
    → Runs (leased axis l reason now b) rs is (Done after (Leased answer)) → (l ≡ answer) × Gave axis l reason b after is
unfolding leased record_receipt numbered event kept with_next_receipt with_receipts
gave {answer = answer} axis l reason now b (then (recorded {r = r}) w) =
    let k = at-end w in
    let same = k.answer in (
      cc,
      record {
        receipt = r;
        handed = ap (λ (is : List Item). ItemRecord r ∷ is) k.items;
        control = refl;
        why = refl;
        lease = refl;
        owner = refl;
        on = refl;
        leases = ap (λ (b : Book). b.leases) (sym k.book);
        capabilities = ap (λ (b : Book). b.capabilities) (sym k.book);
        active = ap (λ (b : Book). b.active) (sym k.book);
        count = ap (λ (b : Book). b.invalid_count) (sym k.book);
        stamp = ap (λ (b : Book). b.state_at) (sym k.book);
        last_tick = ap (λ (b : Book). b.last_tick) (sym k.book);
        next_lease = ap (λ (b : Book). b.next_lease) (sym k.book);
      },
    )

-- and the lease is what a call asked for, where every check holds, and stands
record Given (c : Call) (now : ℕ) (b : Book) (l : Lease) (after : Book) (is : List Item) : Type 0 where
  receipt : Receipt
  asked : Asked c now b receipt l
  handed : is ≡ ItemRecord receipt ∷ []
  control : receipt.decision ≡ Decision.Control
  lease : receipt.lease_id ≡ l.id
  owner : receipt.principal ≡ l.owner
  stands : lease_at after receipt.resource ≡ Some l
  rest : LeaseLeft receipt l b after

given : {c : Call} {now : ℕ} {b : Book} {is : List Item} {axis : ℕ} {l : Lease} {reason : Reason} {b' after : Book}
    (k : Gave axis l reason b' after is) → Asked c now b k.receipt l → lease_at b' axis ≡ Some l → LeaseLeft k.receipt l b after
    → Given c now b l after is
given k asked stands rest =
    record {
      receipt = k.receipt;
      asked = asked;
      handed = k.handed;
      control = k.control;
      lease = k.lease;
      owner = k.owner;
      stands = rw (k.on, k.leases) stands;
      rest = rest;
    }

-- ---- acquire

module _ (after : Book) (eight : length after.leases ≡ 8) (low : (axis : ℕ) → axis_used after.capabilities axis ≡ true → axis < 8) where
  given-grant : {rs : List Reply} {is : List Item} {l : Lease} (f : Option Reason) (q : LeaseRequest) (now : ℕ) (b : Book)
      → first_failing (acquire_checks q now b) ≡ f → Runs (grant f q now b) rs is (Done after (Leased l))
      → Given (Acquire q now) now b l after is
  unfolding grant acquire_checks ready valid_request new_lease granted refresh_state with_state bump_epoch with_epoch with_leases with_next_lease
  given-grant (Some reason) q now b e w = absurd (false≢true (let a = (at-end w).answer in cc))
  given-grant {is = is} None q now b e w =
      let l = new_lease q b.next_lease now in
      let g = gave q.resource l Reason.LeaseGranted now (granted l b) w in
      let k = g.1 in
      let used = (and_both (axis_used b.capabilities q.resource) _ (none-fails (acquire_checks q now b) e).1.1.1.1.0).0 in
      let inside = low q.resource (rw k.capabilities used) in
      let length-same = sym (length-set b.leases q.resource (Some l)) ∙ ap length (sym k.leases) ∙ eight in
      subst (λ l. Given (Acquire q now) now b l after is) g.0
      (given k (asked-grant (grantable q now b e) k.why k.on refl refl refl refl refl refl refl refl)
      (get_or-set_same b.leases q.resource (Some l) None (rw length-same inside))
      (record {
        leases = rw k.on k.leases;
        active = k.active;
        count = k.count;
        stamp = k.stamp;
        last_tick = k.last_tick;
        next_lease = inl (k.why, k.next_lease);
      }))

-- ---- renew

given-extension : {rs : List Reply} {is : List Item} {l : Lease} {after : Book} (axis : Option ℕ) (x : Option Lease) (q : Renewal) (b : Book)
    → first_failing (renew_checks q b) ≡ None → held_axis q.owner q.lease_id b ≡ axis → lease_on axis b ≡ x
    → Runs (extend q axis x b) rs is (Done after (Leased l)) → Given (Renew q) q.now b l after is
unfolding extend extended held_axis lease_on with_leases
given-extension None x q b checks e f w = absurd (false≢true (let a = (at-end w).answer in cc))
given-extension (Some axis) None q b checks e f w = absurd (false≢true (let a = (at-end w).answer in cc))
given-extension {is = is} {after = after} (Some axis) (Some x) q b checks e f w =
    let g = gave axis (extended q x) Reason.LeaseRenewed q.now _ w in
    let k = g.1 in
    let h = held q.owner q.lease_id b axes axis e in
    let same : h.lease ≡ x = some-injective _ _ (sym h.stands ∙ f) in
    let asked = asked-renewal {q = q} {b = b} {r = k.receipt} {old = x} (rw k.on (renewable q b axis x checks e f)) k.why (rw same at h.number) (rw same at h.own) refl refl refl refl refl refl refl in
    subst (λ l. Given (Renew q) q.now b l after is) g.0
    (given k asked (get_or-set_same b.leases axis (Some (extended q x)) None (within b.leases axis x f))
    (record {
      leases = rw k.on k.leases;
      active = k.active;
      count = k.count;
      stamp = k.stamp;
      last_tick = k.last_tick;
      next_lease = inr (k.why, k.next_lease);
    }))

given-renewal : {rs : List Reply} {is : List Item} {l : Lease} {after : Book} (f : Option Reason) (q : Renewal) (b : Book)
    → first_failing (renew_checks q b) ≡ f → Runs (renewed f q b) rs is (Done after (Leased l)) → Given (Renew q) q.now b l after is
unfolding renewed held_lease
given-renewal (Some reason) q b checks w = absurd (false≢true (let a = (at-end w).answer in cc))
given-renewal None q b checks w = given-extension (held_axis q.owner q.lease_id b) _ q b checks refl refl w

-- ---- after every history

module _ (s : Start) (h : History) (x : Exchange) (before : Book) (l : Lease) (at : EndedAt before x (Leased l) (phase_after s h)) where
  -- the lease is given past the tick
  after-tick : (c : Call) (now : ℕ) (next : Book → Interaction) → x.call ≡ c
      → Runs (tick now before next) x.replies x.items (Done at.book (Leased l))
      → ((o : Opened now before next x.replies x.items (Done at.book (Leased l))) → Given c now o.book l at.book o.later_items)
      → LeaseAnswered s h x before l
  after-tick c now next e w f =
      let o = opens now next before w (over tt) in
      let k = f o in
      record {
        now = now;
        ticked-book = o.book;
        ticked = ticked-by x o o.later_items o.items;
        receipt = k.receipt;
        asked = rw e k.asked;
        handed = k.handed;
        control = k.control;
        lease = k.lease;
        owner = k.owner;
        book = at.book;
        idle = at.idle;
        stands = k.stands;
        rest = k.rest;
      }

  answered : (c : Call) → x.call ≡ c → AnswersTo c (Leased l) → Runs (begin c before) x.replies x.items (Done at.book (Leased l))
      → LeaseAnswered s h x before l
  unfolding begin acquire renew book_in
  answered c e (acquires {q = q} {now = now}) w =
      let i = (holds s h at.book (ap book_in at.idle)).0 in
      let low : (axis : ℕ) → axis_used at.book.capabilities axis ≡ true → axis < 8 =
      λ axis u. used_low s i.sound axis (rw i.capabilities at u) in
      after-tick _ now _ e w (λ o. given-grant at.book i.leasing.eight low _ q now o.book refl o.left)
  answered c e (renews {q = q}) w = after-tick _ q.now _ e w (λ o. given-renewal _ q o.book refl o.left)

pub lease-answered : (s : Start) (h : History) (x : Exchange) (b : Book) (l : Lease) → output_after s h ≡ Answers (Leased l)
    → current (log_of s h) ≡ Some x → book_before s h ≡ Some b → LeaseAnswered s h x b l
lease-answered s h x b l out e f =
    let at = ended s h x b e f (Leased l) out in
    answered s h x b l at x.call refl (suits x.call b at.run) at.run

-- ---- where every condition holds it is granted

leased-answer : {rs : List Reply} {is : List Item} {after : Book} {a : Answer} (axis : ℕ) (l : Lease) (reason : Reason) (now : ℕ) (b : Book)
    → Runs (leased axis l reason now b) rs is (Done after a) → a ≡ Leased l
unfolding leased record_receipt
leased-answer axis l reason now b w = sym (at-end (noted w).left).answer

past-grant : {rs first : List Reply} {first_items is : List Item} {book after : Book} {a : Answer} (second : List Reply) (c : Call) (q : LeaseRequest) (now : ℕ)
    (before : Book) → c ≡ Acquire q now → rs ≡ first ++ second
    → Runs (tick now before (λ b. Done b Returned)) first first_items (Done book Returned) → first_failing (acquire_checks q now book) ≡ None
    → Runs (begin c before) rs is (Done after a) → (l : Lease) × (a ≡ Leased l)
unfolding begin acquire grant
past-grant {book = book} second c q now before e same ticked checks w =
    let k = resumes now (λ b. grant (first_failing (acquire_checks q now b)) q now b) before same ticked (rw e at w) in (
      _,
      leased-answer q.resource (new_lease q book.next_lease now) Reason.LeaseGranted now (granted (new_lease q book.next_lease now) book)
          (rw checks at k.1),
    )

pub lease-granted : (s : Start) (h : History) (x : Exchange) (b : Book) (a : Answer) → output_after s h ≡ Answers a
    → current (log_of s h) ≡ Some x → book_before s h ≡ Some b → (q : LeaseRequest) (now : ℕ) → x.call ≡ Acquire q now
    → (book : Book) → Ticked now b x book → Grantable q now book → (l : Lease) × (a ≡ Leased l)
lease-granted s h x b a out e f q now call book t g =
    let at = ended s h x b e f a out in
    past-grant t.later x.call q now b call t.replies t.run (grantable-checked q now book g) at.run

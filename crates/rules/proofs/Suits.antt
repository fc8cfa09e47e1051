-- Which answers a call gives, that an order's is its own receipt, and that only a submission which fails a check hands out the receipt of a
-- rejected order. Assumes nothing.
use Prim.Native.Nat.{ℕ}
use lib.IntN.{ℤ}
use mathlib.Core.Bool.{Bool, true, false, false≢true, cond, not, ◌&&◌, ◌||◌}
use mathlib.Core.List.{List, [], ◌∷◌, ◌++◌}
use mathlib.Core.Logic.{◌≢◌, ◌⊎◌, inl, inr, ⊎_elim}
use Rattle.std.specs.Prelude.{Option, Some, None}
use mathlib.Core.Path.{◌≡◌, refl, sym, ap, ◌∙◌}
use lib.Dec.{ltb, eqb}
use Rattle.model.specs.declared.Capability.{Capability}
use Rattle.model.specs.declared.Decision.{Decision}
use Rattle.model.specs.declared.Lease.{Lease}
use Rattle.model.specs.declared.LeaseRequest.{LeaseRequest}
use Rattle.model.specs.declared.Observation.{Observation}
use Rattle.model.specs.declared.Reason.{Reason}
use Rattle.model.specs.declared.Receipt.{Receipt}
use Rattle.model.specs.declared.Renewal.{Renewal}
use Rattle.model.specs.declared.Submission.{Submission}
use Rattle.model.specs.Words.{permits}
use Rattle.rules.specs.Book.{Book, active_at}
use Rattle.rules.specs.With.{with_state_at}
use Rattle.rules.specs.Receipts.{is_rejected, numbered, event, order_receipt, Progress}
use Rattle.rules.specs.Interaction.{Answer, Refused, Submitted, Interaction, Done, Observe, Execute, Fallback, Record}
use Rattle.rules.specs.Admission.{holds_of, is_stale, axes, first_failing, acquire_checks, renew_checks, held_axis, Verdict, Admits, Rejects, validate}
use Rattle.rules.specs.Lists.{Mem}
use Rattle.rules.specs.Rules.{record_receipt, exhausted, preconditions, meets_estop, new_flags, sense, update_state, emergency_stop, poll_estop, recovered, recoveries, recover, recover_local, leased, grant, acquire, extend, renewed, renew, canceled, cancel, storm, reject, fail, complete, verified, verify, dispatch, admit}
use Rattle.rules.specs.Protocol.{Call, Tick, UpdateState, EmergencyStop, PollEstop, RecoverLocal, Acquire, Renew, Cancel, Submit, Reply, Item, ItemObserve, ItemRecord, begin}
use Rattle.rules.specs.Way.{observed, executed, recorded, Runs, here, then}
use Rattle.rules.specs.Refusals.{Refusable, Refusable.acquire as of-acquire, Refusable.renew as of-renew, Refusable.cancel as of-cancel, Refusable.recover as of-recover}
use Rattle.rules.specs.AnswerFacts.{AnswersTo, ticks, updates, stops, polls, recovers, recovers-not, acquires, acquires-not, renews, renews-not, cancels, cancels-not, submits, OfOrder}
use Rattle.rules.proofs.Basics.{mem-right}
use Rattle.rules.proofs.Trees.{Follows, ends, records, OfFallback, either, follows-fallback, follows-trip, follows-fallback-or-trip, follows-tick, over, Ended, recorded-as, answers-as}
use Rattle.rules.proofs.Exactly.{quiet-storm}
use Rattle.rules.proofs.Ends.{opens-order}

-- the calls that are refused, and the one that is answered with a receipt
pub refusable : {c : Call} {reason : Reason} → AnswersTo c (Refused reason) → (now : ℕ) × Refusable c now
refusable recovers-not = (_, of-recover)
refusable acquires-not = (_, of-acquire)
refusable renews-not = (_, of-renew)
refusable cancels-not = (_, of-cancel)

pub submission : {c : Call} {r : Receipt} → AnswersTo c (Submitted r) → (o : Submission) × (c ≡ Submit o)
submission (submits {o = o}) = (o, refl)

-- ---- the calls other than a submission

abbrev pub Unrejected : Receipt → Type 0
Unrejected r = is_rejected r.decision ≡ false

pub not-rejected : (r : Receipt) → r.decision ≡ Decision.Rejected → ¬ Unrejected r
unfolding is_rejected
not-rejected r e q = false≢true (sym q ∙ ap is_rejected e)

of-fallback : (r : Receipt) → OfFallback r → Unrejected r
unfolding is_rejected
of-fallback r e = ap is_rejected e

pub no-fallback : (r : Receipt) → r.decision ≡ Decision.Rejected → ¬ OfFallback r
no-fallback r e f = not-rejected r e (of-fallback r f)

abbrev Tree : Call → Interaction → Type 0
Tree c t = Follows Unrejected (Ended (AnswersTo c)) t t

tree-preconditions : (flags now : ℕ) (is : List ℕ) (b : Book) (next : Book → Interaction) → ((b : Book) → Tree (UpdateState flags now) (next b))
    → Tree (UpdateState flags now) (preconditions is now b next)
unfolding preconditions
tree-preconditions flags now [] b next f = f b
tree-preconditions flags now (axis ∷ is) b next f =
    either (holds_of (active_at b axis) (λ a. not (permits a.capability b.flags)))
    (follows-fallback-or-trip of-fallback now (λ b'. tree-preconditions flags now is b' next f) axis Reason.Precondition b)
    (tree-preconditions flags now is b next f)

tree-sense : (flags now : ℕ) (b : Book) → Tree (UpdateState flags now) (sense flags now b)
unfolding sense new_flags
tree-sense flags now b =
    either (ltb now b.last_tick) (ends (refl, updates))
    (either (eqb flags b.flags) (ends (refl, updates))
    (either (meets_estop flags (with_state_at now b).config) (follows-trip of-fallback now (λ b. ends (refl, updates)) Reason.Estop _)
    (tree-preconditions flags now axes _ _ (λ b. ends (refl, updates)))))

tree-poll : (raised now : ℕ) (b : Book) → Tree (PollEstop raised now) (poll_estop raised now b)
unfolding poll_estop emergency_stop
tree-poll raised now b =
    either (eqb raised b.estop_seen) (ends (refl, polls)) (follows-trip of-fallback _ (λ b. ends (refl, polls)) Reason.Estop _)

tree-recovered : (now : ℕ) (good : Bool) (b : Book) → Tree (RecoverLocal now) (recovered good b)
unfolding recovered
tree-recovered now true b = ends (refl, recovers)
tree-recovered now false b = ends (refl, recovers-not)

tree-recoveries : (is : List ℕ) (good : Bool) (now : ℕ) (b : Book) → Tree (RecoverLocal now) (recoveries is good now b)
unfolding recoveries
tree-recoveries [] good now b = tree-recovered now good b
tree-recoveries (axis ∷ is) good now b =
    follows-fallback of-fallback axis Reason.Recovered now b (λ ok b'. tree-recoveries is (good && ok) now b')

tree-recover : (now : ℕ) (b : Book) → Tree (RecoverLocal now) (recover now b)
unfolding recover
tree-recover now b =
    either (meets_estop b.flags b.config) (ends (refl, recovers-not))
    (either (ltb now b.last_tick || (is_stale now b || exhausted b)) (ends (refl, recovers-not)) (tree-recoveries _ true now b))

tree-grant : (f : Option Reason) (q : LeaseRequest) (now : ℕ) (b : Book) → Tree (Acquire q now) (grant f q now b)
unfolding grant leased record_receipt numbered event is_rejected
tree-grant (Some reason) q now b = ends (refl, acquires-not)
tree-grant None q now b = records refl (ends (refl, acquires))

tree-extend : (q : Renewal) (axis : Option ℕ) (l : Option Lease) (b : Book) → Tree (Renew q) (extend q axis l b)
unfolding extend leased record_receipt numbered event is_rejected
tree-extend q None l b = ends (refl, renews-not)
tree-extend q (Some axis) None b = ends (refl, renews-not)
tree-extend q (Some axis) (Some l) b = records refl (ends (refl, renews))

tree-renewed : (f : Option Reason) (q : Renewal) (b : Book) → Tree (Renew q) (renewed f q b)
unfolding renewed
tree-renewed (Some reason) q b = ends (refl, renews-not)
tree-renewed None q b = tree-extend q _ _ b

tree-canceled : (axis : Option ℕ) (owner id now : ℕ) (b : Book) → Tree (Cancel owner id now) (canceled axis now b)
unfolding canceled
tree-canceled None owner id now b = ends (refl, cancels-not)
tree-canceled (Some axis) owner id now b =
    follows-fallback of-fallback axis Reason.Canceled now b
    (λ ok b'. either ok (ends (refl, cancels)) (follows-trip of-fallback now (λ b''. ends (refl, cancels-not)) Reason.Driver b'))

-- a call is a submission, or hands out neither observe, nor execute, nor the receipt of a rejected order
pub data Sorted (b : Book) : Call → Type 0 where
  order : (o : Submission) → Sorted b (Submit o)
  other : {c : Call} → Follows Unrejected (Ended (AnswersTo c)) (begin c b) (begin c b) → Sorted b c

pub sorted : (c : Call) (b : Book) → Sorted b c
unfolding begin update_state emergency_stop recover_local acquire renew cancel
sorted (Tick now) b = other (follows-tick of-fallback now (λ b. ends (refl, ticks)) b)
sorted (UpdateState flags now) b = other (follows-tick of-fallback now (tree-sense flags now) b)
sorted (EmergencyStop now) b = other (follows-trip of-fallback _ (λ b. ends (refl, stops)) Reason.Estop _)
sorted (PollEstop raised now) b = other (tree-poll raised now b)
sorted (RecoverLocal now) b = other (follows-tick of-fallback now (tree-recover now) b)
sorted (Acquire q now) b = other (follows-tick of-fallback now (λ b. tree-grant (first_failing (acquire_checks q now b)) q now b) b)
sorted (Renew q) b = other (follows-tick of-fallback q.now (λ b. tree-renewed (first_failing (renew_checks q b)) q b) b)
sorted (Cancel owner id now) b = other (follows-tick of-fallback now (λ b. tree-canceled (held_axis owner id b) owner id now b) b)
sorted (Submit o) b = order o

-- ---- a submission, past its tick

-- the decisions of an order
abbrev OfDecision : Decision → Type 0
OfDecision d = (d ≡ Decision.Executed) ⊎ ((d ≡ Decision.Rejected) ⊎ (d ≡ Decision.Failed))

of-order : (o : Submission) (c : Option Capability) (d : Decision) (reason : Reason) (original : ℕ) (p : Progress) (b : Book) (n : ℕ)
    → OfDecision d → OfOrder o (numbered n (order_receipt o c d reason original p b))
unfolding numbered order_receipt
of-order o c d reason original p b n k =
    record {
      decision = k;
      principal = refl;
      action = refl;
      sequence = refl;
      capability = refl;
      lease = refl;
      requested = refl;
      received = refl;
      admitted = refl;
    }

-- the answer is the order's receipt, and that was handed out
pub record Told (o : Submission) (is : List Item) (a : Answer) : Type 0 where
  pub receipt : Receipt
  pub answer : a ≡ Submitted receipt
  pub own : OfOrder o receipt
  pub handed : Mem (ItemRecord receipt) is

-- the same, after more items
told-later : {o : Submission} {is : List Item} {a : Answer} (first : List Item) → Told o is a → Told o (first ++ is) a
told-later {is = is} first t =
    record { receipt = t.receipt; answer = t.answer; own = t.own; handed = mem-right _ first is t.handed }

module _ (o : Submission) where
  -- where the run of an order that is not rejected stands: at an end or at a record item, with a receipt that says so, or elsewhere
  abbrev pub Tells : List Item → Interaction → Type 0
  Tells is (Done b a) = (t : Told o is a) × Unrejected t.receipt
  Tells is (Observe axis b k) = Unit
  Tells is (Execute c p b k) = Unit
  Tells is (Fallback axis r b k) = Unit
  Tells is (Record r b k) = Unrejected r

  tells-later : (i : Item) (is : List Item) (v : Interaction) → Tells is v → Tells (i ∷ is) v
  unfolding told-later
  tells-later i is (Done b a) t = (told-later (i ∷ []) t.0, t.1)
  tells-later i is (Observe axis b k) t = tt
  tells-later i is (Execute c p b k) t = tt
  tells-later i is (Fallback axis r b k) t = tt
  tells-later i is (Record r b k) t = t

  -- the order's receipt was handed out, and is the answer after nothing but fallbacks
  module _ (r : Receipt) (own : OfOrder o r) (unrejected : Unrejected r) {t : Interaction}
      (h : Follows OfFallback (Ended (λ a. a ≡ Submitted r)) t t) where
    tells-rest : {rs : List Reply} {is : List Item} (v : Interaction) → Runs t rs is v → Tells (ItemRecord r ∷ is) v
    tells-rest (Done b a) w = (record { receipt = r; answer = answers-as h w; own = own; handed = inl refl }, unrejected)
    tells-rest (Observe axis b k) w = tt
    tells-rest (Execute c p b k) w = tt
    tells-rest (Fallback axis r b k) w = tt
    tells-rest (Record r' b k) w = of-fallback r' (recorded-as h w)

  -- a run from an item: it stands there, or has gone on
  tells-record : {r : Receipt} {b : Book} {k v : Interaction} {rs : List Reply} {is : List Item} → Unrejected r
      → ((rs : List Reply) (is : List Item) → Runs k rs is v → Tells (ItemRecord r ∷ is) v) → Runs (Record r b k) rs is v → Tells is v
  tells-record q f here = q
  tells-record q f (then recorded w) = f _ _ w

  tells-observe : {axis : ℕ} {b : Book} {k : Option Observation → Interaction} {v : Interaction} {rs : List Reply} {is : List Item}
      → ((seen : Option Observation) (rs : List Reply) (is : List Item) → Runs (k seen) rs is v → Tells is v)
      → Runs (Observe axis b k) rs is v → Tells is v
  tells-observe f here = tt
  tells-observe {v = v} f (then (observed {o = seen}) w) = tells-later _ _ v (f seen _ _ w)

  tells-execute : {id : ℕ} {p : List ℤ} {b : Book} {k : Bool → Interaction} {v : Interaction} {rs : List Reply} {is : List Item}
      → ((ok : Bool) (rs : List Reply) (is : List Item) → Runs (k ok) rs is v → Tells is v)
      → Runs (Execute id p b k) rs is v → Tells is v
  tells-execute f here = tt
  tells-execute {v = v} f (then (executed {ok = ok}) w) = tells-later _ _ v (f ok _ _ w)

module _ (c : Capability) (o : Submission) where
  tells-fail : {v : Interaction} {rs : List Reply} {is : List Item} (reason : Reason) (p : Progress) (b : Book)
      → Runs (fail c reason p o b) rs is v → Tells o is v
  unfolding fail record_receipt numbered order_receipt is_rejected
  tells-fail {v} reason p b w =
      tells-record o refl (λ rs is w. tells-rest o _ (of-order o (Some c) Decision.Failed reason 0 p b _ (inr (inr refl))) refl
      (follows-trip (λ r e. e) o.now (λ b. ends (refl, refl)) reason _) v w) w

  tells-complete : {v : Interaction} {rs : List Reply} {is : List Item} (end : ℕ) (p : Progress) (b : Book)
      → Runs (complete c end p o b) rs is v → Tells o is v
  unfolding complete record_receipt numbered order_receipt is_rejected
  tells-complete {v} end p b w =
      tells-record o refl
      (λ rs is w. tells-rest o _ (of-order o (Some c) Decision.Executed Reason.Ok 0 p b _ (inl refl)) refl (ends (refl, refl)) v w) w

  tells-verify : {v : Interaction} {rs : List Reply} {is : List Item} (end before : ℕ) (b : Book) (seen : Option Observation)
      → Runs (verify c end before o b seen) rs is v → Tells o is v
  unfolding verify
  tells-verify end before b None w = tells-fail _ _ b w
  tells-verify {v} {rs} {is} end before b (Some seen) w = go _ (verified c.verification o.action.parameters seen) w
    where
      go : (p : Progress) (t : Bool) → Runs (cond t (complete c end p o b) (fail c Reason.Verification p o b)) rs is v → Tells o is v
      go p true w = tells-complete end p b w
      go p false w = tells-fail _ p b w

  tells-executed : {v : Interaction} {rs : List Reply} {is : List Item} (end before : ℕ) (b : Book)
      → Runs (Observe c.resource b (verify c end before o b)) rs is v → Tells o is v
  tells-executed end before b w = tells-observe o (λ seen rs is w. tells-verify end before b seen w) w

  tells-dispatch : {v : Interaction} {rs : List Reply} {is : List Item} (end : ℕ) (b : Book) (seen : Option Observation)
      → Runs (dispatch c end o b seen) rs is v → Tells o is v
  unfolding dispatch
  tells-dispatch end b None w = tells-fail _ _ b w
  tells-dispatch {v} end b (Some seen) w = tells-execute o (λ ok rs is w. go ok _ rs is w) w
    where
      go : (ok : Bool) (p : Progress) (rs : List Reply) (is : List Item)
          → Runs (cond ok (Observe c.resource b (verify c end seen.state o b)) (fail c Reason.Driver p o b)) rs is v → Tells o is v
      go true p rs is w = tells-executed end _ b w
      go false p rs is w = tells-fail _ p b w

-- an admitted order is not rejected
pub tells-admitted : {rs : List Reply} {is : List Item} {v : Interaction} (c : Capability) (l : Lease) (o : Submission) (b : Book)
    → Runs (admit (Admits c l) o b) rs is v → Tells o is v
unfolding admit
tells-admitted c l o b w = tells-observe o (λ seen rs is w. tells-dispatch c o _ _ seen w) w

-- a rejected order tells of it, too
pub storm-answers : {rs : List Reply} {is : List Item} {b' : Book} {a : Answer} (now : ℕ) (r : Receipt) (b : Book)
    → Runs (storm now r b) rs is (Done b' a) → a ≡ Submitted r
storm-answers now r b w = answers-as {P = λ a. a ≡ Submitted r} (quiet-storm (λ r e. e) now r b refl) w

-- the order was admitted, or this receipt says that it was rejected
abbrev pub Settled : List Item → Receipt → Type 0
Settled is r = (((axis : ℕ) × Mem (ItemObserve axis) is) × (r.decision ≢ Decision.Rejected)) ⊎ (r.decision ≡ Decision.Rejected)

settled-later : (first is : List Item) (r : Receipt) → Settled is r → Settled (first ++ is) r
settled-later first is r k = ⊎_elim (λ m. inl ((m.0.0, mem-right _ first is m.0.1), m.1)) inr k

told-storm : {rs : List Reply} {is : List Item} {b' : Book} {a : Answer} (o : Submission) (r : Receipt) (b : Book) → OfOrder o r
    → r.decision ≡ Decision.Rejected → Runs (storm o.now r b) rs is (Done b' a)
    → (t : Told o (ItemRecord r ∷ is) a) × Settled (ItemRecord r ∷ is) t.receipt
told-storm o r b own says w = (record { receipt = r; answer = storm-answers o.now r b w; own = own; handed = inl refl }, inr says)

told-verdict : {rs : List Reply} {is : List Item} {b' : Book} {a : Answer} (v : Verdict) (o : Submission) (b : Book)
    → Runs (admit v o b) rs is (Done b' a) → (t : Told o is a) × Settled is t.receipt
unfolding admit reject record_receipt numbered order_receipt told-later
told-verdict (Rejects reason) o b (then recorded w) = told-storm o _ _ (of-order o _ Decision.Rejected reason _ _ b _ (inr (inl refl))) refl w
told-verdict (Admits c l) o b (then (observed {o = seen}) w) =
    let t = tells-dispatch c o _ _ seen w in
    (told-later (_ ∷ []) t.0, inl ((c.resource, inl refl), λ e. not-rejected t.0.receipt e t.1))

pub told : {rs : List Reply} {is : List Item} {b' : Book} {a : Answer} (c : Call) (o : Submission) (b : Book) → c ≡ Submit o
    → Runs (begin c b) rs is (Done b' a) → (t : Told o is a) × Settled is t.receipt
unfolding told-later
told c o b e w =
    let k = opens-order c o b e w (over tt) in
    let t = told-verdict (validate o k.book) o k.book k.left in
    rw k.items (told-later k.tick_items t.0, settled-later k.tick_items k.later_items t.0.receipt t.1)

-- ---- every call

pub suits : {rs : List Reply} {is : List Item} {b' : Book} {a : Answer} (c : Call) (b : Book) → Runs (begin c b) rs is (Done b' a) → AnswersTo c a
suits {rs} {is} {b'} {a} c b w = go (sorted c b) w
  where
    go : {c : Call} → Sorted b c → Runs (begin c b) rs is (Done b' a) → AnswersTo c a
    go (order o) w = rw (told (Submit o) o b refl w).0.answer submits
    go (other h) w = answers-as h w

-- only a submission hands out the receipt of a rejected order
pub rejects-only : {rs : List Reply} {is : List Item} {r : Receipt} {b' : Book} {k : Interaction} (c : Call) (b : Book)
    → Runs (begin c b) rs is (Record r b' k) → r.decision ≡ Decision.Rejected → (o : Submission) × (c ≡ Submit o)
rejects-only {rs} {is} {r} {b'} {k} c b w e = go (sorted c b) w
  where
    go : {c : Call} → Sorted b c → Runs (begin c b) rs is (Record r b' k) → (o : Submission) × (c ≡ Submit o)
    go (order o) w = (o, refl)
    go (other h) w = absurd (not-rejected r e (recorded-as h w))

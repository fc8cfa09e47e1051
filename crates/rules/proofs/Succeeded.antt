-- A cancel or a recovery that succeeds: what it found in the book that its opening tick left, and that none of its fallbacks failed. Assumes
-- nothing.
use Prim.Native.Nat.{ℕ}
use mathlib.Core.Bool.{Bool, true, false, cond, ◌&&◌, ◌||◌, false≢true}
use mathlib.Core.List.{List, [], ◌∷◌}
use mathlib.Core.Logic.{inl, inr}
use Rattle.std.specs.Prelude.{Option, Some, None}
use mathlib.Core.Path.{◌≡◌, refl}
use borrow.Author.Tests.{ltb-false, leb-false}
use lib.Dec.{ltb}
use Rattle.model.specs.declared.Reason.TheVariants as Reason
use Rattle.model.proofs.Tests.{and_both}
use Rattle.rules.specs.Book.{Book}
use Rattle.rules.specs.Interaction.{Succeeded, Refused, Interaction, Done}
use Rattle.rules.specs.Admission.{is_stale, held_axis}
use Rattle.rules.specs.Lists.{Mem}
use Rattle.rules.specs.Rules.{used_axes, refresh_state, trip, tick, exhausted, meets_estop, recovered, recoveries, recover, recover_local, canceled, cancel}
use Rattle.rules.specs.Protocol.{Call, RecoverLocal, Cancel, Reply, FellBack, Recorded, Item, Answers, Start, begin}
use Rattle.rules.specs.Log.{History, output_after, log_of, book_before, Exchange, current}
use Rattle.rules.specs.Way.{Runs}
use Rattle.rules.specs.Refusals.{Refusable, Refusable.cancel as of-cancel, Refusable.recover as of-recover, Succeeding, Succeeding.cancel as by-cancel, Succeeding.recover as by-recover, Succeeds}
use Rattle.rules.specs.AnswerFacts.{AnswersTo, recovers, cancels}
use Rattle.rules.proofs.Basics.{neither}
use Rattle.rules.proofs.Trees.{OfFallback, ends, follows-trip, over, Ended, at-end, answers-as}
use Rattle.rules.proofs.Ends.{ended, Opened, opens, ticked-by}
use Rattle.rules.proofs.Suits.{suits}
use Rattle.rules.proofs.Refused.{fell}

-- ---- past the tick

-- no fallback failed
abbrev AllGood : List Reply → Type 0
AllGood rs = ¬ Mem (FellBack false) rs

-- one more fallback, before these
good_more : (rs : List Reply) → AllGood rs → AllGood (FellBack true ∷ (Recorded ∷ rs))
good_more rs n (inl e) = false≢true (cc)
good_more rs n (inr (inl e)) = false≢true (cc)
good_more rs n (inr (inr m)) = n m

-- this was found, and no fallback failed
abbrev Well : Call → Book → List Reply → Type 0
Well c b rs = Succeeding c b × AllGood rs

good-recoveries : {rs : List Reply} {is : List Item} {b' : Book} (on : List ℕ) (good : Bool) (now : ℕ) (b : Book)
    → Runs (recoveries on good now b) rs is (Done b' Succeeded) → (good ≡ true) × AllGood rs
unfolding recoveries recovered
good-recoveries [] true now b w = (refl, rw (at-end w).replies (λ m. m))
good-recoveries [] false now b w = absurd (false≢true (let e = (at-end w).answer in cc))
good-recoveries {rs = rs} (axis ∷ rest) good now b w =
    let k = fell axis Reason.Recovered now b _ w in
    let m = good-recoveries {rs = k.later} rest (good && k.ok) now _ k.left in
    let both = and_both good k.ok m.0 in
    (both.0, rw (k.replies, both.1) (good_more k.later m.1))

succeeded-recovery : {rs : List Reply} {is : List Item} {b' : Book} (now : ℕ) (b : Book)
    → Runs (recover now b) rs is (Done b' Succeeded) → Well (RecoverLocal now) b rs
unfolding recover is_stale
succeeded-recovery {rs} {is} {b'} now b w =
    go (meets_estop b.flags b.config) refl (ltb now b.last_tick || (is_stale now b || exhausted b)) refl w
  where
    go : (t : Bool) → meets_estop b.flags b.config ≡ t → (u : Bool) → (ltb now b.last_tick || (is_stale now b || exhausted b)) ≡ u → Runs
        (cond t (Done b (Refused Reason.Estop))
        (cond u (Done b (Refused Reason.Precondition)) (recoveries (used_axes b.capabilities) true now b))) rs is (Done b' Succeeded)
        → Well (RecoverLocal now) b rs
    go true p u q w = absurd (false≢true (let e = (at-end w).answer in cc))
    go false p true q w = absurd (false≢true (let e = (at-end w).answer in cc))
    go false p false q w =
        let k = neither (ltb now b.last_tick) _ q in
        let m = neither (is_stale now b) (exhausted b) k.1 in
        (by-recover p (ltb-false _ _ k.0) (leb-false _ _ m.0) m.1, (good-recoveries _ true now b w).1)

-- a failed cancel trips, and is refused
tripped-not : {rs : List Reply} {is : List Item} {b' : Book} (now : ℕ) (b : Book)
    → Runs (trip Reason.Driver now b (λ b. Done b (Refused Reason.Driver))) rs is (Done b' Succeeded) → ⊥
tripped-not now b w =
    let refuses = follows-trip {Q = OfFallback} {E = Ended (λ a. a ≡ Refused Reason.Driver)} (λ r e. e) now (λ b. ends (refl, refl)) Reason.Driver b in
    let answer = answers-as refuses w in
    false≢true (cc)

succeeded-cancel : {rs : List Reply} {is : List Item} {b' : Book} (axis : Option ℕ) (owner id now : ℕ) (b : Book) → held_axis owner id b ≡ axis
    → Runs (canceled axis now b) rs is (Done b' Succeeded) → Well (Cancel owner id now) b rs
unfolding canceled
succeeded-cancel None owner id now b e w = absurd (false≢true (let e = (at-end w).answer in cc))
succeeded-cancel {rs} {is} {b'} (Some axis) owner id now b e w =
    let k = fell axis Reason.Canceled now b _ w in
    (by-cancel e, rw k.replies (go k.ok _ k.left))
  where
    go : {rs : List Reply} {is : List Item} (ok : Bool) (b : Book)
        → Runs (cond ok (Done (refresh_state b) Succeeded) (trip Reason.Driver now b (λ b. Done b (Refused Reason.Driver)))) rs is (Done b' Succeeded)
        → AllGood (FellBack ok ∷ (Recorded ∷ rs))
    go true b w = rw (at-end w).replies (good_more [] (λ m. m))
    go false b w = absurd (tripped-not now b w)

-- ---- after every history

module _ (x : Exchange) (before after : Book) where
  -- what is so past the tick is so of the call
  after-tick : (c : Call) (now : ℕ) (next : Book → Interaction) → x.call ≡ c → Refusable c now
      → Runs (tick now before next) x.replies x.items (Done after Succeeded)
      → ((o : Opened now before next x.replies x.items (Done after Succeeded)) → Well c o.book o.later) → Succeeds x before
  after-tick c now next e time w f =
      let o = opens now next before w (over tt) in
      let k = f o in
      record {
        now = now;
        time = rw e time;
        book = o.book;
        ticked = ticked-by x o o.later_items o.items;
        found = rw e k.0;
        good = k.1;
      }

  succeeds : (c : Call) → x.call ≡ c → AnswersTo c Succeeded → Runs (begin c before) x.replies x.items (Done after Succeeded)
      → Succeeds x before
  unfolding begin recover_local cancel
  succeeds c e (recovers {now = now}) w = after-tick _ now _ e of-recover w (λ o. succeeded-recovery now o.book o.left)
  succeeds c e (cancels {owner = owner} {id = id} {now = now}) w =
      after-tick _ now _ e of-cancel w (λ o. succeeded-cancel _ owner id now o.book refl o.left)

pub succeeded : (s : Start) (h : History) (x : Exchange) (b : Book) → output_after s h ≡ Answers Succeeded → current (log_of s h) ≡ Some x
    → book_before s h ≡ Some b → Succeeds x b
succeeded s h x b out e f =
    let at = ended s h x b e f Succeeded out in
    succeeds x b at.book x.call refl (suits x.call b at.run) at.run

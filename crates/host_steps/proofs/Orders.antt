-- What a rejection and an admission leave in the words. Assumes nothing.
use Prim.Native.Nat.{ℕ, ◌+◌, ◌%◌, ◌≤◌}
use mathlib.Core.Bool.{Bool, true, false, cond, not, false≢true}
use mathlib.Core.List.{List}
use Rattle.std.specs.Prelude.{Some, None}
use mathlib.Core.Path.{◌≡◌, refl, sym, ap, ◌∙◌, subst}
use borrow.Author.Tests.{le-leb, leb-true, not-true, not-false}
use native.Mathlib.Nat.{mod-lt}
use native.Mathlib.Omega.{arith}
use lib.Dec.{leb, ltb}
use lib.ListN.{get_or, set}
use Rattle.model.specs.declared.Capability.{Capability}
use Rattle.model.specs.declared.LeaseSlot.{LeaseSlot}
use Rattle.model.specs.declared.Reason.{Reason}
use Rattle.model.specs.declared.Receipt.{Receipt}
use Rattle.model.specs.declared.ReplaySlot.{ReplaySlot}
use Rattle.model.specs.declared.Submission.{Submission}
use Rattle.model.specs.Records.{no_lease, no_capability}
use Rattle.replay.specs.Ring.{held}
use Rattle.rules.specs.Admission.{first_failing, is_some, replayed, admission, order_capability, valid_until, validate}
use Rattle.rules.specs.Protocol.{Reaction, proceed}
use Rattle.rules.specs.Receipts.{top, axis_or255}
use Rattle.rules.specs.Rules.{original, reject, admit}
use Rattle.state.specs.State.{Tables, Asked, Hand, state, book_of, Sound, Moves}
use Rattle.state.specs.Stores.{awaiting}
use Rattle.state.specs.declared.AfterRecord.{AfterRecord}
use Rattle.state.specs.declared.Answer.{Answer}
use Rattle.state.specs.declared.Awaited.TheVariants as Awaited
use Rattle.state.specs.declared.Carrying.{Carrying}
use Rattle.state.specs.declared.Fixed.{Fixed}
use Rattle.state.specs.declared.Numbers.{Numbers}
use Rattle.state.specs.declared.Waiting.{Waiting}
use Rattle.decide_ready.specs.Checks.{check_of, passes, failure_of}
use Rattle.decide_ready.specs.declared.Check.{Check}
use Rattle.decide_ready.specs.declared.Check.TheVariants.{Passed}
use Rattle.decide_ready.specs.declared.Ruling.{Ruling}
use Rattle.decide_ready.specs.declared.Verdict.TheVariants as Verdict
use Rattle.decide_order.specs.Checks.{early_checks}
use Rattle.decide_order.specs.Orders.{ShowsOrder, counting_to, rejected as rejected_in, admitted as admitted_in}
use Rattle.decide_order.specs.declared.Admitting.{Admitting}
use Rattle.decide_order.specs.declared.Rejecting.{Rejecting}
use Rattle.runtime.specs.declared.Hit.{Hit}
use Rattle.runtime.specs.declared.Runtime.{Runtime}
use Rattle.runtime.specs.Kept.{filled_in}
use Rattle.runtime.specs.Promises.{Kept, Good, MovesIn, PlacesIn, spare_or, FoundIn, HitIn}
use Rattle.runtime.specs.Runtimes.{tables_in, asked_in, hand_in, book_on}
use Rattle.runtime.proofs.Orders.{rejecting-kept, rejects, order-shown, order-fits, order-stands, admits-in}
use Rattle.runtime.proofs.Rulings.{passed-so, failed-so, rejects-so, resource-so, order-ruled, receipt-so}
use Rattle.rows.specs.Codes.{below}
use Rattle.rows.proofs.Codes.{below-back}
use Rattle.layout.specs.Fields.{with_waiting, with_numbers, with_carrying, with_cursor, with_leases, with_replay}
use Rattle.layout.specs.Layout.{runtime_in, Becomes}
use Rattle.layout.specs.Promises.{Goes}
use Rattle.host_steps.specs.Altered.{sequenced_slot}
use Rattle.host_store.specs.Stores.{RecordsIn}
use Rattle.layout.proofs.Chains.{same_then, becomes-then, goes_by}

-- a receipt put into its slot after other stores
pub records-by : {w w₁ w₂ : List ℕ} {rt : Runtime} {rejection : Bool} {after : AfterRecord} {r : Receipt} {a : Answer} {x : Reaction} (given : Type 0)
    → Becomes w w₁ rt → RecordsIn rejection after r w₁ w₂ → (given → Kept rt)
    → (given → (z : Runtime) (slot : ℕ) → PlacesIn rejection after rt z slot → MovesIn (filled_in slot r z) a x) → Goes w w₂ a given x
records-by {rejection = k} {after = f} {a = a} {x = x} given p q kept m =
    record {
      same = same_then p.same q.same;
      moves =
          λ g.
          subst (λ (h : Runtime). MovesIn h a x) (sym q.filled)
          (m g q.between q.slot
          (subst (λ (h : Runtime). PlacesIn k f h q.between q.slot) p.stored (q.places (subst Kept (sym p.stored) (kept g)))));
    }

-- a rejection -----------------------------------------------------------------------------------------------------------------

abbrev Rejects : Fixed → Numbers → ℕ → Reason → ℕ → Submission → Rejecting → Type 0
Rejects fixed numbers resource reason first submission r =
    (t : Tables) (q : Asked) (h : Hand) → Sound (state fixed numbers t q h) → q.submission ≡ submission
    → axis_or255 (order_capability submission (book_of fixed numbers t)) ≡ resource → original reason submission (book_of fixed numbers t) ≡ first
    → Moves (rejected_in r (state fixed numbers t q h)) Answer.Item (proceed (reject reason submission (book_of fixed numbers t)))

pub rejects-on : {w w₁ w₂ : List ℕ} {submission : Submission} {fixed : Fixed} {numbers next : Numbers} (resource : ℕ) (reason : Reason) (first : ℕ) (r : Rejecting)
    → submission ≡ (runtime_in w).submission → fixed ≡ (runtime_in w).fixed → numbers ≡ (runtime_in w).numbers
    → Rejects fixed numbers resource reason first submission r → next ≡ counting_to r.invalid_count numbers
    → Becomes w w₁ (with_numbers next (runtime_in w)) → RecordsIn true AfterRecord.Rejected r.receipt w₁ w₂
    → Goes w w₂ Answer.Item
    (Good (runtime_in w)
    × ((axis_or255 (order_capability (runtime_in w).submission (book_on (runtime_in w))) ≡ resource)
    × (original reason (runtime_in w).submission (book_on (runtime_in w)) ≡ first)))
    (proceed (reject reason (runtime_in w).submission (book_on (runtime_in w))))
rejects-on {w} resource reason first r s f n says e p q =
    let h = runtime_in w in
    let at : Rejects h.fixed h.numbers resource reason first h.submission r = rw (s, f, n) at says in
    records-by _ (rw (e, n) at p) q (λ g. rejecting-kept h r g.0.kept)
    (λ g z slot places. rejects h reason r z slot g.0 places (at (tables_in h) (asked_in h) (hand_in h) g.0.sound refl g.1.0 g.1.1))

-- an admission ----------------------------------------------------------------------------------------------------------------

-- an end that fits, by its test
pub end_fits : (submission : Submission) (b : Bool) → b ≡ leb (submission.received_at + submission.action.valid_for_ms) top → not b ≡ false
    → valid_until submission ≤ top
unfolding valid_until
end_fits submission b e t = leb-true _ _ (sym e ∙ not-false b t)

-- .. and one that doesn't, which the checks exclude
pub end-unfit : (w : List ℕ) {submission : Submission} (at : ℕ) (b : Bool) → submission ≡ (runtime_in w).submission
    → b ≡ leb (submission.received_at + submission.action.valid_for_ms) top → not b ≡ true
    → (Good (runtime_in w)
    × (FoundIn (runtime_in w).submission.action.capability at (runtime_in w)
    × (first_failing (admission (runtime_in w).submission (book_on (runtime_in w))) ≡ None)))
    → ⊥
unfolding valid_until
end-unfit w at b s e t g =
    false≢true (sym (not-true b t) ∙ (rw s at e) ∙ le-leb _ _ (order-fits (runtime_in w) g.0 at g.1.0 g.1.1))

abbrev Admits : Numbers → LeaseSlot → Submission → Admitting → Type 0
Admits numbers slot submission r =
    (f : Fixed) (t : Tables) (q : Asked) (h : Hand) (c : Capability) → Sound (state f numbers t q h) → q.submission ≡ submission
    → ShowsOrder submission.action.capability true c slot t → first_failing (admission submission (book_of f numbers t)) ≡ None
    → Moves (admitted_in r c submission.action.sequence (state f numbers t q h)) Answer.Item
    (proceed (admit (validate submission (book_of f numbers t)) submission (book_of f numbers t)))

next_low : (cursor next : ℕ) → next ≡ (cursor + 1) % 32 → below 32 next ≡ (cursor + 1) % 32
next_low cursor next e = ap (below 32) e ∙ below-back 32 _ (mod-lt (cursor + 1) (omega arith))

pub admits-on : {w w₁ w₂ w₃ w₄ w₅ : List ℕ} {submission : Submission} {numbers : Numbers} {cursor : ℕ} {carrying : Carrying} {capability : Capability} {axis : ℕ}
    {slot seen : LeaseSlot} {waits : Waiting} {next : ℕ} {entry : ReplaySlot} (at : ℕ) (r : Admitting)
    → submission ≡ (runtime_in w).submission → numbers ≡ (runtime_in w).numbers → cursor ≡ (runtime_in w).cursor → carrying ≡ (runtime_in w).carrying
    → capability ≡ get_or (runtime_in w).capabilities at no_capability → axis ≡ spare_or capability.resource → slot ≡ get_or (runtime_in w).leases axis no_lease
    → Admits numbers slot submission r → waits ≡ awaiting Awaited.ObserveBefore → next ≡ (cursor + 1) % 32
    → seen ≡ sequenced_slot submission.action.sequence slot → entry ≡ held r.entry
    → Becomes w w₁ (with_waiting waits (runtime_in w))
    → Becomes w₁ w₂ (with_carrying (record { end = r.end; at = at; pre_state = carrying.pre_state }) (runtime_in w₁))
    → Becomes w₂ w₃ (with_cursor (below 32 next) (runtime_in w₂)) → Becomes w₃ w₄ (with_leases (set (runtime_in w₃).leases axis seen) (runtime_in w₃))
    → Becomes w₄ w₅ (with_replay (set (runtime_in w₄).replay cursor entry) (runtime_in w₄))
    → Goes w w₅ Answer.Item
    (Good (runtime_in w)
    × (FoundIn (runtime_in w).submission.action.capability at (runtime_in w)
    × (first_failing (admission (runtime_in w).submission (book_on (runtime_in w))) ≡ None)))
    (proceed (admit (validate (runtime_in w).submission (book_on (runtime_in w))) (runtime_in w).submission (book_on (runtime_in w))))
admits-on {w} {cursor = cursor} {axis = axis} {seen = seen} {next = next} {entry = entry} at r s n cu ca cp ax sl says we ne se ee p₁ p₂ p₃ p₄ p₅ =
    let h = runtime_in w in
    goes_by _
    (becomes-then (λ (z : Runtime). with_replay (set z.replay cursor entry) z)
    (becomes-then (λ (z : Runtime). with_leases (set z.leases axis seen) z) (becomes-then (with_cursor _) (becomes-then (with_carrying _) p₁ p₂) p₃) p₄) p₅)
    (λ g.
    rw (we, ca, next_low cursor next ne, se, ee, sl, s, ax, cp, cu)
    (admits-in h g.0 at g.1.0 g.1.1 r
    ((rw (s, n, sl, ax, cp) at says) h.fixed (tables_in h) (asked_in h) (hand_in h) _ g.0.sound refl (order-stands h g.0 at g.1.0 g.1.1) g.1.1)))

-- the ruling of an order --------------------------------------------------------------------------------------------------------

abbrev Early : Fixed → Numbers → Bool → LeaseSlot → Submission → Check → Type 0
Early fixed numbers known slot submission r =
    (t : Tables) (q : Asked) (h : Hand) (c : Capability) → Sound (state fixed numbers t q h) → ShowsOrder submission.action.capability known c slot t
    → r ≡ check_of (first_failing (early_checks submission (book_of fixed numbers t)))

abbrev Rules : Check → Numbers → Capability → LeaseSlot → Bool → Submission → Ruling → Type 0
Rules early numbers capability slot found submission r =
    (f : Fixed) (t : Tables) (known : Bool) → ShowsOrder submission.action.capability known capability slot t
    → early ≡ check_of (first_failing (early_checks submission (book_of f numbers t))) → (early ≡ Passed → found ≡ is_some (replayed submission (book_of f numbers t)))
    → failure_of r ≡ first_failing (admission submission (book_of f numbers t))

module _ (w : List ℕ) {submission : Submission} {fixed : Fixed} {numbers : Numbers} {capability : Capability} {axis : ℕ} {slot : LeaseSlot} {wanted : Bool} (at : ℕ)
    (early : Check) (hit : Hit) (ruling : Ruling) (s : submission ≡ (runtime_in w).submission) (f : fixed ≡ (runtime_in w).fixed) (n : numbers ≡ (runtime_in w).numbers)
    (look : Good (runtime_in w) → FoundIn submission.action.capability at (runtime_in w)) (cp : capability ≡ get_or (runtime_in w).capabilities at no_capability)
    (ax : axis ≡ spare_or capability.resource) (sl : slot ≡ get_or (runtime_in w).leases axis no_lease) (first : Early fixed numbers (ltb at 16) slot submission early)
    (pa : wanted ≡ passes early) (seek : Good (runtime_in w) → HitIn wanted submission.principal submission.action.action_id hit (runtime_in w))
    (rule : Rules early numbers capability slot hit.found submission ruling) where
  found : Good (runtime_in w) → FoundIn (runtime_in w).submission.action.capability at (runtime_in w)
  found g = rw s at (look g)

  shown : Good (runtime_in w) → early ≡ check_of (first_failing (early_checks (runtime_in w).submission (book_on (runtime_in w))))
  shown g =
      let h = runtime_in w in
      (rw (s, f, n, sl, ax, cp) at first) (tables_in h) (asked_in h) (hand_in h) _ g.sound (order-shown h g at (found g))

  hits : Good (runtime_in w) → HitIn (passes early) (runtime_in w).submission.principal (runtime_in w).submission.action.action_id hit (runtime_in w)
  hits g = rw (pa, s) at (seek g)

  ruled : Good (runtime_in w) → failure_of ruling ≡ first_failing (admission (runtime_in w).submission (book_on (runtime_in w)))
  ruled g = order-ruled (runtime_in w) g at (found g) early (shown g) hit (hits g) ruling (rw (s, n, sl, ax, cp) at rule)

  fails-so : ruling.verdict ≡ Verdict.Failed → Good (runtime_in w)
      → first_failing (admission (runtime_in w).submission (book_on (runtime_in w))) ≡ Some ruling.reason
  fails-so e g = failed-so ruling (ruled g) e

  pub admits-then : {w' : List ℕ} {a : Answer} {x : Reaction} → ruling.verdict ≡ Verdict.Passed
      → Goes w w' a
      (Good (runtime_in w)
      × (FoundIn (runtime_in w).submission.action.capability at (runtime_in w)
      × (first_failing (admission (runtime_in w).submission (book_on (runtime_in w))) ≡ None)))
      x
      → Goes w w' a (Good (runtime_in w)) x
  admits-then e p = record { same = p.same; moves = λ g. p.moves (g, (found g, passed-so ruling (ruled g) e)) }

  pub rejects-then : {w' : List ℕ} {a : Answer} {resource : ℕ} → resource ≡ axis_or255 (cond (ltb at 16) (Some capability) None) → ruling.verdict ≡ Verdict.Failed
      → Goes w w' a
      (Good (runtime_in w)
      × ((axis_or255 (order_capability (runtime_in w).submission (book_on (runtime_in w))) ≡ resource)
      × (original ruling.reason (runtime_in w).submission (book_on (runtime_in w)) ≡ hit.receipt)))
      (proceed (reject ruling.reason (runtime_in w).submission (book_on (runtime_in w))))
      → Goes w w' a (Good (runtime_in w))
      (proceed (admit (validate (runtime_in w).submission (book_on (runtime_in w))) (runtime_in w).submission (book_on (runtime_in w))))
  rejects-then {w'} {a} re e p =
      let h = runtime_in w in
      record {
        same = p.same;
        moves =
            λ g.
            rejects-so h (runtime_in w') a (fails-so e g)
            (p.moves (g, (resource-so h g at (found g) ∙ sym (rw cp at re), receipt-so h g at (found g) early (shown g) hit (hits g) (fails-so e g))));
      }

-- What a host is shown of lent words: what the laws of runtime say of what the looks find there. Assumes nothing.
use Prim.Native.Nat.{ℕ, ◌+◌, ◌<◌, ◌≤◌}
use mathlib.Core.Bool.{Bool, false, cond, false≢true}
use mathlib.Core.List.{List}
use mathlib.Core.Logic.{⊎_elim}
use mathlib.Core.Path.{◌≡◌, sym, ap, ◌∙◌, subst}
use native.Mathlib.Omega.{arith}
use borrow.Author.Tests.{lt-ltb, le-ltb}
use lib.Dec.{ltb}
use lib.ListN.{get_or}
use Rattle.std.specs.Prelude.{Option, Some, None}
use Rattle.model.specs.declared.Capability.{Capability}
use Rattle.model.specs.declared.Lease.{Lease}
use Rattle.model.specs.declared.LeaseSlot.{LeaseSlot}
use Rattle.model.specs.declared.Receipt.{Receipt}
use Rattle.model.specs.declared.Submission.{Submission}
use Rattle.model.specs.Records.{no_lease, no_capability, no_receipt}
use Rattle.receipts.specs.Indexes.{Numbered, Points}
use Rattle.receipts.specs.declared.Index.{Index}
use Rattle.receipts.specs.declared.Place.{Place}
use Rattle.receipts.proofs.Circles.{lt-or-ge}
use Rattle.rows.specs.Rows.{carrying_of}
use Rattle.rows.proofs.Codes.{below_less}
use Rattle.rules.specs.Interaction.{Leased, Submitted}
use Rattle.rules.specs.Protocol.{ReadReceiptCount, Answers, awaited_in}
use Rattle.state.specs.State.{lease_in, lease_or, answered_at, output_of}
use Rattle.state.specs.declared.Answer.TheVariants as Answer
use Rattle.state.specs.declared.Carrying.{Carrying}
use Rattle.state.specs.declared.Falling.{Falling}
use Rattle.state.specs.declared.Fixed.{Fixed}
use Rattle.state.specs.declared.Numbers.{Numbers}
use Rattle.state.specs.declared.Waiting.{Waiting}
use Rattle.decide_read.specs.Shown.{number_at, snapshot_at, lease_shown_at, place_or16, capability_at, rejected_by, others_by, NotedAs, slot_by, receipt_at, shown_item, item_from}
use Rattle.decide_read.specs.declared.CapabilityShown.{CapabilityShown}
use Rattle.decide_read.specs.declared.ItemShown.{ItemShown}
use Rattle.decide_read.specs.declared.LeaseShown.{LeaseShown}
use Rattle.decide_read.specs.declared.Noted.{Noted}
use Rattle.decide_read.specs.declared.NumberShown.{NumberShown}
use Rattle.decide_read.specs.declared.ReceiptShown.{ReceiptShown}
use Rattle.decide_read.specs.declared.SnapshotShown.{SnapshotShown}
use Rattle.decide_start.specs.Starts.{is_started}
use Rattle.decide_start.specs.declared.Starting.{Starting}
use Rattle.runtime.specs.declared.Runtime.{Runtime}
use Rattle.runtime.specs.Promises.{spare_or}
use Rattle.runtime.specs.Runtimes.{state_in}
use Rattle.runtime.specs.Stages.{phase_in, RuntimeSound, NumberReads, SnapshotReads, LeaseReads, CapabilityReads, ReceiptReads}
use Rattle.runtime.proofs.Showing.{item-shown, lease-answered, receipt-answered, lease-reads, capability-reads, count-reads, snapshot-reads, noted-low, receipt-reads}
use Rattle.layout.specs.Layout.{runtime_in}
use Rattle.host_readings.specs.Readings.{RetainedAny, NotedAny}
use Rattle.host_store.specs.Pushes.{Tells}

-- an index, or none --------------------------------------------------------------------------------------------------------

-- the test says that it is none
pub not-numbered : {A : Type 0} {i : Index} {b : Bool} → Tells b (Numbered i) → b ≡ false → Numbered i → A
not-numbered t e n = absurd (false≢true (sym e ∙ t.no n))

module _ {i : Index} {at : ℕ} where
  rejected-low : (f : Option Place) → Points i at f → rejected_by f < 65
  rejected-low (Some (Place.Rejected p)) m = omega (arith, m.inside)
  rejected-low (Some (Place.Other p)) m = omega arith
  rejected-low None m = omega arith

  others-low : (f : Option Place) → Points i at f → others_by f < 65
  others-low (Some (Place.Rejected p)) m = omega arith
  others-low (Some (Place.Other p)) m = omega (arith, m.inside)
  others-low None m = omega arith

  pub noted-some : {n : Noted} → NotedAs i at n → NotedAny i at n
  noted-some e =
      record {
        rejected = rw e.rejected (rejected-low e.found e.points);
        others = rw e.others (others-low e.found e.points);
        noted = λ n. e;
      }

-- a slot below 65 is its own
slot_kept : (x : ℕ) → x < 65 → cond (ltb x 64) x 64 ≡ x
slot_kept x b =
    ⊎_elim (λ (l : x < 64). rw (lt-ltb x 64 l)) (λ (l : 64 ≤ x). let z : 64 ≡ x = omega (arith, b, l) in rw (le-ltb x 64 l) z) (lt-or-ge x 64)

-- readings -----------------------------------------------------------------------------------------------------------------

module _ (h : Runtime) {starting : Starting} (s : starting ≡ h.starting) where
  pub lease-shows : (axis at : ℕ) {slot : LeaseSlot} {r : LeaseShown} → at ≡ spare_or axis → slot ≡ get_or h.leases at no_lease
      → r ≡ lease_shown_at (is_started starting.stage) (lease_in slot) → RuntimeSound h → LeaseReads axis h r
  lease-shows axis at a l e good = rw (e, s, l, a) (lease-reads h axis good.kept)

  pub capability-shows : (index at : ℕ) {fixed : Fixed} {capability : Capability} {r : CapabilityShown} → fixed ≡ h.fixed
      → at ≡ place_or16 index fixed.count → capability ≡ get_or h.capabilities at no_capability
      → r ≡ capability_at (is_started starting.stage) at capability → RuntimeSound h → CapabilityReads index h r
  capability-shows index at f a l e good = rw (e, s, l, a, f) (capability-reads h good.kept index)

  module _ {index : Index} (i : index ≡ h.places.index) where
    -- .. of a sound runtime there is an index
    numbered : RuntimeSound h → Numbered index
    numbered good = rw i good.kept.placed.receipts.numbered

    kept-many : (retained : ℕ) → RetainedAny index retained → RuntimeSound h
        → retained ≡ h.places.index.rejected.count + h.places.index.others.count
    kept-many retained k good = k (numbered good) ∙ ap (λ (x : Index). x.rejected.count + x.others.count) i

    pub count-shows : (retained : ℕ) {r : NumberShown} → RetainedAny index retained → r ≡ number_at (is_started starting.stage) retained
        → RuntimeSound h → NumberReads ReadReceiptCount h r
    count-shows retained k e good = rw (e, s, kept-many retained k good) (count-reads h good.kept)

    pub snapshot-shows : (retained : ℕ) {fixed : Fixed} {numbers : Numbers} {r : SnapshotShown} → fixed ≡ h.fixed → numbers ≡ h.numbers
        → RetainedAny index retained → r ≡ snapshot_at (is_started starting.stage) fixed numbers retained → RuntimeSound h → SnapshotReads h r
    snapshot-shows retained f n k e good = rw (e, s, f, n, kept-many retained k good) (snapshot-reads h good)

    module _ (at : ℕ) {noted : Noted} (n : NotedAny index at noted) {rejected other : ℕ}
        (a : rejected ≡ get_or h.places.rejected noted.rejected 0) (b : other ≡ get_or h.places.others noted.others 0) where
      abbrev noted_slot : ℕ
      noted_slot = slot_by noted (get_or h.places.rejected noted.rejected 0) (get_or h.places.others noted.others 0)

      noted-there : RuntimeSound h → NotedAs h.places.index at noted
      noted-there good = rw i at (n.noted (numbered good))

      slot-there : {x slot : ℕ} → x ≡ slot_by noted rejected other → slot ≡ cond (ltb x 64) x 64 → RuntimeSound h → slot ≡ noted_slot
      slot-there e l good =
          rw (l, e, a, b) (slot_kept noted_slot (noted-low h good.kept at noted (noted-there good)))

      pub receipt-shows : {x slot : ℕ} {receipt : Receipt} {r : ReceiptShown} → x ≡ slot_by noted rejected other → slot ≡ cond (ltb x 64) x 64
          → receipt ≡ get_or h.slots slot no_receipt → r ≡ receipt_at (is_started starting.stage) slot receipt → RuntimeSound h → ReceiptReads at h r
      receipt-shows e l p shown good =
          rw (shown, s, p, slot-there e l good) (receipt-reads h good.kept at noted (noted-there good))

-- what a host sees -------------------------------------------------------------------------------------------------------

-- where an order stands is below 17, whatever the words hold
carrying-few : (w : List ℕ) → (runtime_in w).carrying.at < 17
unfolding runtime_in carrying_of
carrying-few w = below_less 17 _ (omega arith)

pub carrying-low : (w : List ℕ) (carrying : Carrying) → carrying ≡ (runtime_in w).carrying → carrying.at < 17
carrying-low w carrying e = subst (λ (x : Carrying). x.at < 17) (sym e) (carrying-few w)

module _ (h : Runtime) where
  pub item-seen : {waiting : Waiting} {falling : Falling} {carrying : Carrying} {capability : Capability} {submission : Submission} {slot : ℕ}
      {receipt : Receipt} {r : ItemShown} → waiting ≡ h.waiting → falling ≡ h.falling → carrying ≡ h.carrying
      → capability ≡ get_or h.capabilities carrying.at no_capability → submission ≡ h.submission → slot ≡ h.slot
      → receipt ≡ get_or h.slots slot no_receipt → r ≡ item_from waiting.awaited falling capability submission.action.parameters receipt
      → RuntimeSound h → r ≡ shown_item (awaited_in (phase_in h))
  item-seen w f c k m p x e good = rw (e, w, f, k, c, m, x, p) (item-shown h good)

  pub lease-seen : {axis at : ℕ} {slot : LeaseSlot} {r : Lease} → axis ≡ h.axis → at ≡ spare_or axis → slot ≡ get_or h.leases at no_lease
      → r ≡ lease_or no_lease.lease (lease_in slot) → RuntimeSound h → output_of Answer.Leased (state_in h) ≡ Answers (Leased r)
  lease-seen x a l e good = rw (e, l, a, x) (lease-answered h good.kept)

  pub receipt-seen : {waiting : Waiting} {slot : ℕ} {receipt kept r : Receipt} → waiting ≡ h.waiting → slot ≡ h.slot
      → receipt ≡ get_or h.slots slot no_receipt → kept ≡ h.submitted → r ≡ answered_at waiting.after_record receipt kept
      → output_of Answer.Submitted (state_in h) ≡ Answers (Submitted r)
  receipt-seen w p x k e = rw (e, w, x, p, k) (receipt-answered h)

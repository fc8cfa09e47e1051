-- What a host is shown of a runtime: by the stage of its start, and by what stands in it. Assumes nothing.
use Prim.Native.Nat.{ℕ, zero, suc, ◌+◌, ◌<◌, ◌≤◌}
use mathlib.Core.Bool.{Bool, true, false, cond, false≢true}
use mathlib.Core.List.{List, [], ◌∷◌}
use mathlib.Core.Logic.{⊎_elim}
use Rattle.std.specs.Prelude.{Option, Some, None, slice_get}
use mathlib.Core.Path.{◌≡◌, refl, sym, ap, ap₂, ◌∙◌, subst}
use borrow.Author.Tests.{lt-ltb, le-ltb}
use native.Mathlib.Omega.{arith}
use lib.Dec.{ltb}
use lib.ListN.{length, get_or, take, length-map, get_or-eq_default}
use lib.Seq.{get_or-take, length-take-le}
use Rattle.model.specs.declared.Capability.{Capability}
use Rattle.model.specs.declared.Lease.{Lease}
use Rattle.model.specs.declared.Presence.{Presence}
use Rattle.model.specs.declared.Presence.TheVariants.{Absent, Present}
use Rattle.model.specs.declared.Reason.{Reason}
use Rattle.model.specs.declared.Receipt.{Receipt}
use Rattle.model.specs.Records.{no_lease, no_capability, no_receipt}
use Rattle.receipts.specs.Indexes.{Points}
use Rattle.receipts.specs.declared.Place.{Place}
use Rattle.receipts.proofs.Circles.{lt-or-ge}
use Rattle.receipts.proofs.Promises.{list_length}
use Rattle.rules.specs.Admission.{is_some}
use Rattle.rules.specs.Book.{Book}
use Rattle.rules.specs.Interaction.{Leased, Submitted, Refused}
use Rattle.rules.specs.Protocol.{ItemFallback, Reading, ReadState, ReadEpoch, ReadBootId, ReadFlags, ReadReceiptCount, ReadConfig, ReadSnapshot, ReadLease, ReadCapability, ReadReceipt, Output, Shows, NoRuntime, Answers, OfNumber, OfSnapshot, OfLease, OfCapability, OfReceipt, item_of, wait_book, book_in, awaited_in, lease_count, snapshot, read, shown}
use Rattle.state.specs.State.{lease_in, lease_or, count_of, Hand, Asked, book_of, phase_at, phase_of, answered_at, output_of, Sound}
use Rattle.state.specs.declared.Answer.TheVariants as Answer
use Rattle.state.specs.declared.Awaited.{Awaited}
use Rattle.decide_read.specs.Shown.{presence_of, number_at, state_at, no_config, config_at, snapshot_of, snapshot_at, slot_with, lease_shown_at, place_or16, no_capability_in, capability_at, rejected_by, others_by, NotedAs, slot_by, no_receipt_in, receipt_at, number_says, state_says, config_says, snapshot_says, lease_says, capability_says, receipt_says, shown_item, item_from}
use Rattle.decide_read.specs.declared.CapabilityShown.{CapabilityShown}
use Rattle.decide_read.specs.declared.ItemShown.{ItemShown}
use Rattle.decide_read.specs.declared.Noted.{Noted}
use Rattle.decide_read.specs.declared.ReceiptShown.{ReceiptShown}
use Rattle.decide_start.specs.Starts.{is_started}
use Rattle.decide_start.specs.declared.Stage.{Stage}
use Rattle.runtime.specs.declared.Runtime.{Runtime}
use Rattle.runtime.specs.Promises.{Kept, spare_or}
use Rattle.runtime.specs.Runtimes.{stores_of, receipts_in, tables_in, asked_in, hand_in, state_in, book_on}
use Rattle.runtime.specs.Stages.{phase_at_stage, phase_in, SoundAt, RuntimeSound, StateReads, NumberReads, ConfigReads, SnapshotReads, LeaseReads, CapabilityReads, ReceiptReads}
use Rattle.runtime.proofs.Slots.{shown-at}

-- by the stage of the start ----------------------------------------------------------------------------------------------

-- the book that readings see
book-at : (w : Awaited) (h : Hand) (q : Asked) (b : Book) → book_in (phase_at w h q b) ≡ Some b
unfolding book_in wait_book phase_at
book-at Awaited.Nothing h q b = refl
book-at Awaited.ObserveBefore h q b = refl
book-at Awaited.Execute h q b = refl
book-at Awaited.ObserveAfter h q b = refl
book-at Awaited.Fallback h q b = refl
book-at Awaited.Record h q b = refl

book-seen : (s : Stage) (rt : Runtime) → book_in (phase_at_stage s rt) ≡ cond (is_started s) (Some (book_on rt)) None
unfolding phase_at_stage phase_of book_in
book-seen Stage.Trying rt = refl
book-seen Stage.Gone rt = refl
book-seen Stage.Started rt = book-at rt.waiting.awaited (hand_in rt) (asked_in rt) (book_on rt)

started-sound : (s : Stage) (rt : Runtime) → SoundAt s rt → is_started s ≡ true → Sound (state_in rt)
unfolding SoundAt
started-sound Stage.Trying rt k e = absurd (false≢true e)
started-sound Stage.Gone rt k e = absurd (false≢true e)
started-sound Stage.Started rt k e = k

abbrev is_there : Presence → Bool
is_there Absent = false
is_there Present = true

not-absent : {A : Type 0} → Present ≡ Absent → A
not-absent e = absurd (false≢true (sym (ap is_there e)))

none-there : (t : Bool) → presence_of t ≡ Absent → t ≡ false
none-there true e = not-absent e
none-there false e = refl

-- what is shown there, and what where there is no runtime
says_at : (q : Reading) (b : Book) (s : Bool → Output) → s false ≡ NoRuntime → (t : Bool) → (t ≡ true → s true ≡ Shows (read q b))
    → s t ≡ shown q (cond t (Some b) None)
unfolding shown
says_at q b s off true on = on refl
says_at q b s off false on = off

module _ (rt : Runtime) where
  abbrev there : Bool
  there = is_started rt.starting.stage

  says : (q : Reading) (s : Bool → Output) → s false ≡ NoRuntime → (there ≡ true → s true ≡ Shows (read q (book_on rt)))
      → s there ≡ shown q (book_in (phase_in rt))
  says q s off on = says_at q (book_on rt) s off there on ∙ ap (shown q) (sym (book-seen rt.starting.stage rt))

-- numbers ----------------------------------------------------------------------------------------------------------------

number-reads : (rt : Runtime) (q : Reading) (n : ℕ) → read q (book_on rt) ≡ OfNumber n → NumberReads q rt (number_at (there rt) n)
number-reads rt q n e =
    record {
      shows = says rt q (λ t. number_says (number_at t n)) refl (λ y. ap Shows (sym e));
      blank = λ a. ap (λ (t : Bool). cond t n 0) (none-there (there rt) a);
    }

module _ (rt : Runtime) where
  pub epoch-reads : NumberReads ReadEpoch rt (number_at (there rt) rt.numbers.epoch)
  unfolding read book_of
  epoch-reads = number-reads rt ReadEpoch rt.numbers.epoch refl

  pub boot-reads : NumberReads ReadBootId rt (number_at (there rt) rt.fixed.boot_id)
  unfolding read book_of
  boot-reads = number-reads rt ReadBootId rt.fixed.boot_id refl

  pub flags-reads : NumberReads ReadFlags rt (number_at (there rt) rt.numbers.flags)
  unfolding read book_of
  flags-reads = number-reads rt ReadFlags rt.numbers.flags refl

  pub state-reads : StateReads rt (state_at (there rt) rt.numbers.mode.state)
  unfolding read book_of
  state-reads =
      record {
        shows = says rt ReadState (λ t. state_says (state_at t rt.numbers.mode.state)) refl (λ y. refl);
        blank = λ a. ap (λ (t : Bool). (state_at t rt.numbers.mode.state).state) (none-there (there rt) a);
      }

  pub config-reads : ConfigReads rt (config_at (there rt) rt.fixed.config)
  unfolding read book_of
  config-reads =
      record {
        shows = says rt ReadConfig (λ t. config_says (config_at t rt.fixed.config)) refl (λ y. refl);
        blank = λ a. ap (λ (t : Bool). cond t rt.fixed.config no_config) (none-there (there rt) a);
      }

-- how many receipts are kept
abbrev kept_count : Runtime → ℕ
kept_count rt = rt.places.index.rejected.count + rt.places.index.others.count

kept-count : (rt : Runtime) → Kept rt → length (receipts_in rt) ≡ kept_count rt
kept-count rt k = list_length rt.places.index (stores_of rt.places rt.slots) k.placed.receipts

pub count-reads : (rt : Runtime) → Kept rt → NumberReads ReadReceiptCount rt (number_at (there rt) (kept_count rt))
unfolding read book_of
count-reads rt k = number-reads rt ReadReceiptCount (kept_count rt) (ap OfNumber (kept-count rt k))

-- how many leases stand
lease-count : (ls : List (Option Lease)) → lease_count ls ≡ count_of ls
unfolding lease_count count_of
lease-count [] = refl
lease-count (None ∷ ls) = lease-count ls
lease-count (Some l ∷ ls) = ap suc (lease-count ls)

snapshot-is : (rt : Runtime) → Kept rt → Sound (state_in rt) → snapshot (book_on rt) ≡ snapshot_of rt.fixed rt.numbers (kept_count rt)
unfolding snapshot book_of
snapshot-is rt k s = rw (lease-count (tables_in rt).leases, ← s.counted.held, kept-count rt k)

pub snapshot-reads : (rt : Runtime) → RuntimeSound rt → SnapshotReads rt (snapshot_at (there rt) rt.fixed rt.numbers (kept_count rt))
unfolding read
snapshot-reads rt k =
    record {
      shows =
          says rt ReadSnapshot (λ t. snapshot_says (snapshot_at t rt.fixed rt.numbers (kept_count rt))) refl
          (λ y. ap (λ x. Shows (OfSnapshot x)) (sym (snapshot-is rt k.kept (started-sound rt.starting.stage rt k.staged y))));
      blank =
          λ a. ap (λ (t : Bool). (snapshot_at t rt.fixed rt.numbers (kept_count rt)).snapshot) (none-there (there rt) a);
    }

-- the lease of an axis ---------------------------------------------------------------------------------------------------

module _ (rt : Runtime) (k : Kept rt) (axis : ℕ) where
  abbrev LeaseAt : ℕ → Type 0
  LeaseAt at = lease_in (get_or rt.leases at no_lease) ≡ get_or (tables_in rt).leases axis None

  eight : length (tables_in rt).leases ≡ 8
  eight = length-map (take 8 rt.leases) lease_in ∙ length-take-le 8 rt.leases (rw k.sized.leases (omega arith))

  low : axis < 8 → LeaseAt axis
  low b = sym (shown-at lease_in no_lease 8 rt.leases axis b (rw k.sized.leases (omega (arith, b))))

  high : 8 ≤ axis → LeaseAt 8
  high b = k.sized.lease ∙ sym (get_or-eq_default (tables_in rt).leases None {n = axis} (rw eight b))

  -- it stands in its slot, or in the spare one
  spare-lease : LeaseAt (spare_or axis)
  spare-lease =
      ⊎_elim (λ (b : axis < 8). rw (lt-ltb axis 8 b) (low b)) (λ (b : 8 ≤ axis). rw (le-ltb axis 8 b) (high b)) (lt-or-ge axis 8)

slot-holds : (o : Option Lease) → lease_in (slot_with o) ≡ o
unfolding slot_with
slot-holds None = refl
slot-holds (Some l) = refl

slot-blank : (t : Bool) (o : Option Lease) → lease_in (cond t (slot_with o) no_lease) ≡ None → cond t (slot_with o) no_lease ≡ no_lease
unfolding slot_with is_some
slot-blank true None e = refl
slot-blank true (Some l) e = absurd (false≢true (sym (ap is_some e)))
slot-blank false o e = refl

pub lease-reads : (rt : Runtime) (axis : ℕ) → Kept rt
    → LeaseReads axis rt (lease_shown_at (there rt) (lease_in (get_or rt.leases (spare_or axis) no_lease)))
unfolding read book_of
lease-reads rt axis k =
    let o = lease_in (get_or rt.leases (spare_or axis) no_lease) in
    record {
      shows =
          says rt (ReadLease axis) (λ t. lease_says (lease_shown_at t o)) refl
          (λ y. ap (λ (x : Option Lease). Shows (OfLease x)) (slot-holds o ∙ spare-lease rt k axis));
      blank = slot-blank (there rt) o;
      unread = λ a. ap (λ (t : Bool). cond t (slot_with o) no_lease) (none-there (there rt) a);
    }

-- the record at a place --------------------------------------------------------------------------------------------------

found_at : {A : Type 0} (l : List A) (count i : ℕ) (d : A) → i < length l → i < count → slice_get (take count l) i ≡ Some (get_or l i d)
found_at [] count i d h k = absurd (omega (arith, h))
found_at (a ∷ l) zero i d h k = absurd (omega (arith, k))
found_at (a ∷ l) (suc count) zero d h k = refl
found_at (a ∷ l) (suc count) (suc i) d h k = found_at l count i d (omega (arith, h)) (omega (arith, k))

not_found : {A : Type 0} (l : List A) (count i : ℕ) → count ≤ i → slice_get (take count l) i ≡ None
not_found [] zero i h = refl
not_found [] (suc count) i h = refl
not_found (a ∷ l) zero i h = refl
not_found (a ∷ l) (suc count) zero h = absurd (omega (arith, h))
not_found (a ∷ l) (suc count) (suc i) h = not_found l count i (omega (arith, h))

abbrev record_if : Bool → Capability → CapabilityShown
record_if t c = cond t (record { runtime = Present; presence = Present; capability = c }) (no_capability_in Present)

record-says : (t : Bool) (c : Capability) → capability_says (record_if t c) ≡ Shows (OfCapability (cond t (Some c) None))
record-says true c = refl
record-says false c = refl

record-blank : (t : Bool) (c : Capability) → (record_if t c).presence ≡ Absent → (record_if t c).capability ≡ no_capability
record-blank true c e = not-absent e
record-blank false c e = refl

record-there : (t : Bool) (c : Capability) → (record_if t c).runtime ≡ Absent → (record_if t c).presence ≡ Absent
record-there true c e = e
record-there false c e = refl

capability-blank : (t : Bool) (at : ℕ) (c : Capability) → (capability_at t at c).presence ≡ Absent → (capability_at t at c).capability ≡ no_capability
capability-blank true at c e = record-blank (ltb at 16) c e
capability-blank false at c e = refl

capability-there : (t : Bool) (at : ℕ) (c : Capability) → (capability_at t at c).runtime ≡ Absent → (capability_at t at c).presence ≡ Absent
capability-there true at c e = record-there (ltb at 16) c e
capability-there false at c e = refl

module _ (rt : Runtime) (k : Kept rt) (index : ℕ) where
  abbrev record_at : ℕ → Type 0
  record_at at = slice_get (tables_in rt).capabilities index ≡ cond (ltb at 16) (Some (get_or rt.capabilities at no_capability)) None

  record-found : index < rt.fixed.count → record_at index
  record-found b =
      let c = k.placed.count in
      rw (lt-ltb index 16 (omega (arith, b, c)))
      (found_at rt.capabilities rt.fixed.count index no_capability (rw k.sized.capabilities (omega (arith, b, c))) b)

  record_is : record_at (place_or16 index rt.fixed.count)
  record_is =
      ⊎_elim (λ (b : index < rt.fixed.count). rw (lt-ltb index rt.fixed.count b) (record-found b))
      (λ (b : rt.fixed.count ≤ index). rw (le-ltb index rt.fixed.count b) (not_found rt.capabilities rt.fixed.count index b))
      (lt-or-ge index rt.fixed.count)

  pub count-few : rt.fixed.count < 17
  count-few = omega (arith, k.placed.count)

  pub capability-reads : CapabilityReads index rt
      (capability_at (there rt) (place_or16 index rt.fixed.count) (get_or rt.capabilities (place_or16 index rt.fixed.count) no_capability))
  unfolding read book_of
  capability-reads =
      let at = place_or16 index rt.fixed.count in
      let c = get_or rt.capabilities at no_capability in
      record {
        shows =
            says rt (ReadCapability index) (λ t. capability_says (capability_at t at c)) refl
            (λ y. record-says (ltb at 16) c ∙ ap (λ (x : Option Capability). Shows (OfCapability x)) (sym record_is));
        blank = capability-blank (there rt) at c;
        unread = capability-there (there rt) at c;
      }

-- the receipt at a place -------------------------------------------------------------------------------------------------

abbrev receipt_if : Bool → Receipt → ReceiptShown
receipt_if t r = cond t (record { runtime = Present; presence = Present; receipt = r }) (no_receipt_in Present)

receipt-says : (t : Bool) (r : Receipt) → receipt_says (receipt_if t r) ≡ Shows (OfReceipt (cond t (Some r) None))
receipt-says true r = refl
receipt-says false r = refl

receipt-blank-if : (t : Bool) (r : Receipt) → (receipt_if t r).presence ≡ Absent → (receipt_if t r).receipt ≡ no_receipt
receipt-blank-if true r e = not-absent e
receipt-blank-if false r e = refl

receipt-there-if : (t : Bool) (r : Receipt) → (receipt_if t r).runtime ≡ Absent → (receipt_if t r).presence ≡ Absent
receipt-there-if true r e = e
receipt-there-if false r e = refl

receipt-blank : (t : Bool) (slot : ℕ) (r : Receipt) → (receipt_at t slot r).presence ≡ Absent → (receipt_at t slot r).receipt ≡ no_receipt
receipt-blank true slot r e = receipt-blank-if (ltb slot 64) r e
receipt-blank false slot r e = refl

receipt-there : (t : Bool) (slot : ℕ) (r : Receipt) → (receipt_at t slot r).runtime ≡ Absent → (receipt_at t slot r).presence ≡ Absent
receipt-there true slot r e = receipt-there-if (ltb slot 64) r e
receipt-there false slot r e = refl

module _ (rt : Runtime) (k : Kept rt) (index : ℕ) where
  -- the slot, by where the receipt is noted
  abbrev slot_for : ℕ → ℕ → ℕ
  slot_for a b = cond (ltb a 64) (get_or rt.places.rejected a 0) (cond (ltb b 64) (get_or rt.places.others b 0) 64)

  abbrev FoundAt : ℕ → Type 0
  FoundAt s = (s < 65) × (slice_get (receipts_in rt) index ≡ cond (ltb s 64) (Some (get_or rt.slots s no_receipt)) None)

  at_slot : (s : ℕ) → s < 64 → slice_get (receipts_in rt) index ≡ Some (get_or (take 64 rt.slots) s no_receipt) → FoundAt s
  at_slot s l e = (omega (arith, l), e ∙ rw (lt-ltb s 64 l, get_or-take 64 rt.slots s no_receipt l))

  found-slot : (f : Option Place) → Points rt.places.index index f → FoundAt (slot_for (rejected_by f) (others_by f))
  found-slot (Some (Place.Rejected p)) m =
      let st = stores_of rt.places rt.slots in
      let s = k.placed.receipts in
      subst FoundAt (get_or-take 64 rt.places.rejected p 0 m.inside ∙ rw (lt-ltb p 64 m.inside)) (at_slot _ (m.below st s) (m.reads st s))
  found-slot (Some (Place.Other p)) m =
      let st = stores_of rt.places rt.slots in
      let s = k.placed.receipts in
      subst FoundAt (get_or-take 64 rt.places.others p 0 m.inside ∙ rw (lt-ltb p 64 m.inside)) (at_slot _ (m.below st s) (m.reads st s))
  found-slot None m = (omega arith, m.reads (stores_of rt.places rt.slots) k.placed.receipts)

  rejected-low : (f : Option Place) → Points rt.places.index index f → rejected_by f < 65
  rejected-low (Some (Place.Rejected p)) m = omega (arith, m.inside)
  rejected-low (Some (Place.Other p)) m = omega arith
  rejected-low None m = omega arith

  others-low : (f : Option Place) → Points rt.places.index index f → others_by f < 65
  others-low (Some (Place.Rejected p)) m = omega arith
  others-low (Some (Place.Other p)) m = omega (arith, m.inside)
  others-low None m = omega arith

  module _ (n : Noted) (e : NotedAs rt.places.index index n) where
    abbrev noted_slot : ℕ
    noted_slot = slot_by n (get_or rt.places.rejected n.rejected 0) (get_or rt.places.others n.others 0)

    pub noted-rejected : n.rejected < 65
    noted-rejected = rw e.rejected (rejected-low e.found e.points)

    pub noted-others : n.others < 65
    noted-others = rw e.others (others-low e.found e.points)

    noted-slot : FoundAt noted_slot
    noted-slot = subst FoundAt (sym (ap₂ slot_for e.rejected e.others)) (found-slot e.found e.points)

    pub noted-low : noted_slot < 65
    noted-low = noted-slot.0

    pub receipt-reads : ReceiptReads index rt (receipt_at (there rt) noted_slot (get_or rt.slots noted_slot no_receipt))
    unfolding read book_of
    receipt-reads =
        let r = get_or rt.slots noted_slot no_receipt in
        record {
          shows =
              says rt (ReadReceipt index) (λ t. receipt_says (receipt_at t noted_slot r)) refl
              (λ y. receipt-says (ltb noted_slot 64) r ∙ ap (λ (x : Option Receipt). Shows (OfReceipt x)) (sym noted-slot.1));
          blank = receipt-blank (there rt) noted_slot r;
          unread = receipt-there (there rt) noted_slot r;
        }

-- the awaited item -------------------------------------------------------------------------------------------------------

item-from-awaited : (w : Awaited) (h : Hand) (q : Asked) (b : Book)
    → item_from w h.falling h.order.capability q.submission.action.parameters h.receipt ≡ shown_item (awaited_in (phase_at w h q b))
unfolding item_from phase_at item_of
item-from-awaited Awaited.Nothing h q b = refl
item-from-awaited Awaited.ObserveBefore h q b = refl
item-from-awaited Awaited.Execute h q b = refl
item-from-awaited Awaited.ObserveAfter h q b = refl
item-from-awaited Awaited.Fallback h q b = refl
item-from-awaited Awaited.Record h q b = refl

module _ (rt : Runtime) where
  -- what stands of it
  abbrev item_on : Awaited → ItemShown
  item_on w =
      item_from w rt.falling (get_or rt.capabilities rt.carrying.at no_capability) rt.submission.action.parameters
      (get_or rt.slots rt.slot no_receipt)

  item-at : (s : Stage) → SoundAt s rt → item_on rt.waiting.awaited ≡ shown_item (awaited_in (phase_at_stage s rt))
  unfolding SoundAt phase_at_stage phase_of item_from
  item-at Stage.Trying k =
      ap item_on k.awaited ∙ ap (λ (x : Reason). shown_item (Some (ItemFallback rt.falling.axis x))) k.opened.reason
  item-at Stage.Gone k = ap item_on k
  item-at Stage.Started k = item-from-awaited rt.waiting.awaited (hand_in rt) (asked_in rt) (book_on rt)

  pub item-shown : RuntimeSound rt → item_on rt.waiting.awaited ≡ shown_item (awaited_in (phase_in rt))
  item-shown k = item-at rt.starting.stage k.staged

  -- what is answered -------------------------------------------------------------------------------------------------------

  pub lease-answered : Kept rt
      → output_of Answer.Leased (state_in rt) ≡ Answers (Leased (lease_or no_lease.lease (lease_in (get_or rt.leases (spare_or rt.axis) no_lease))))
  unfolding output_of book_of
  lease-answered k = ap (λ (o : Option Lease). Answers (Leased (lease_or no_lease.lease o))) (sym (spare-lease rt k rt.axis))

  pub receipt-answered : output_of Answer.Submitted (state_in rt)
      ≡ Answers (Submitted (answered_at rt.waiting.after_record (get_or rt.slots rt.slot no_receipt) rt.submitted))
  unfolding output_of
  receipt-answered = refl

  pub refusal-answered : output_of Answer.Refused (state_in rt) ≡ Answers (Refused rt.why.reason)
  unfolding output_of
  refusal-answered = refl

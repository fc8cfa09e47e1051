-- Whatever the lent words are, their record holds what a host is told of them: each signed number is read from 32 bits of a word. Assumes nothing.
use Prim.Native.Nat.{ℕ, zero, suc, ◌-◌, ◌+◌, ◌*◌, ◌/◌, ◌%◌, ◌<◌}
use native.Mathlib.Omega.{arith}
use mathlib.Core.Bool.{Bool, true, false, cond}
use mathlib.Core.List.{List, [], ◌∷◌, map}
use Rattle.std.specs.Prelude.{Option, Some, None}
use mathlib.Core.Path.{◌≡◌, refl, sym, ap, subst}
use borrow.Author.Tests.{ltb-true, ltb-false}
use lib.Dec.{ltb}
use lib.IntN.{ℤ, pos, negsuc}
use lib.ListN.{get_or, take}
use Rattle.std.specs.Prelude.{slice_get}
use Rattle.words.specs.Signs.{signed}
use Rattle.model.specs.Records.{no_lease, no_capability, no_receipt}
use Rattle.model.specs.declared.Capability.{Capability}
use Rattle.model.specs.declared.Lease.{Lease}
use Rattle.model.specs.declared.LeaseSlot.{LeaseSlot}
use Rattle.model.specs.declared.Presence.{Presence}
use Rattle.model.specs.declared.Presence.TheVariants.{Absent, Present}
use Rattle.model.specs.declared.Receipt.{Receipt}
use Rattle.receipts.specs.Indexes.{Stores, in_slot, rejected_slots, other_slots, list_of}
use Rattle.receipts.specs.Orders.{All, order}
use Rattle.receipts.specs.declared.Index.{Index}
use Rattle.rules.specs.Book.{Book, lease_at}
use Rattle.rules.specs.Protocol.{Reading, ReadState, ReadEpoch, ReadBootId, ReadFlags, ReadReceiptCount, ReadConfig, ReadSnapshot, ReadLease, ReadCapability, ReadReceipt, OfLease, OfCapability, OfReceipt, Phase, item_of as item_on, wait_book, book_in, awaited_in, read, shown}
use Rattle.state.specs.State.{Hand, Asked, lease_if, lease_in, lease_or, answered_at, item_at, item_of, phase_at, phase_of, output_of, book_of}
use Rattle.state.specs.declared.AfterRecord.{AfterRecord}
use Rattle.state.specs.declared.AfterRecord.TheVariants as AfterRecord
use Rattle.state.specs.declared.Answer.{Answer}
use Rattle.state.specs.declared.Answer.TheVariants as Answer
use Rattle.state.specs.declared.Awaited.{Awaited}
use Rattle.state.specs.declared.Awaited.TheVariants as Awaited
use Rattle.cells.specs.Cells.{part, tab, table}
use Rattle.format.specs.Decode.{word, bounds_of, verification_of, capability_of, action_of, submission_of}
use Rattle.format.specs.Inputs.{I32, Two, two, RangedBounds, RangedVerification, RangedCapability}
use Rattle.format.specs.Back.{FitsReceipt, FitsLease, FitsItem, FitsValue, Fits}
use Rattle.rows.specs.Codes.{low_of, high_of, signs_of}
use Rattle.rows.specs.Rows.{lease_slot_of, receipt_of}
use Rattle.decide_start.specs.declared.Stage.{Stage}
use Rattle.decide_start.specs.declared.Stage.TheVariants as Stage
use Rattle.runtime.specs.declared.Runtime.{Runtime}
use Rattle.runtime.specs.Runtimes.{stores_of, receipts_in, state_in, hand_in, asked_in, book_on}
use Rattle.runtime.specs.Stages.{phase_at_stage, phase_in}
use Rattle.layout.specs.Layout.{runtime_in}
use Rattle.host.specs.Host.{item_output}

-- rows -------------------------------------------------------------------------------------------------------------------

signed_by : (b : Bool) (n : ℕ) → ltb n 2147483648 ≡ b → n < 4294967296 → I32 (cond b (pos n) (negsuc (4294967295 - n)))
signed_by true n e h = record { sfits = ltb-true n 2147483648 e }
signed_by false n e h =
    let k = ltb-false n 2147483648 e in
    let m : 4294967295 - n < 2147483648 = omega (arith, k, h) in
    record { sfits = m }

-- 32 bits of any word
word_fits : (x : ℕ) → I32 (signed (x % 4294967296))
unfolding signed
word_fits x = signed_by (ltb (x % 4294967296) 2147483648) (x % 4294967296) refl (omega arith)

zero-fits : I32 (pos 0)
unfolding signed
zero-fits = word_fits 0

signs-fit : (x : ℕ) → Two I32 (signs_of x)
unfolding low_of high_of
signs-fit x = two (word_fits x) (word_fits (x / 4294967296))

bounds-fit : (x y : ℕ) → RangedBounds (bounds_of x y)
unfolding bounds_of
bounds-fit x y = (word_fits x, word_fits y)

receipt-fits : (l : List ℕ) → FitsReceipt (receipt_of l)
unfolding receipt_of
receipt-fits l = (signs-fit (word l 15), signs-fit (word l 16))

blank-fits : FitsReceipt no_receipt
unfolding no_receipt
blank-fits = (two zero-fits zero-fits, two zero-fits zero-fits)

lease-fits : (l : List ℕ) → FitsLease (lease_slot_of l).lease
unfolding lease_slot_of
lease-fits l = two (bounds-fit (word l 6) (word l 7)) (bounds-fit (word l 8) (word l 9))

no-lease-fits : FitsLease no_lease.lease
no-lease-fits = two (zero-fits, zero-fits) (zero-fits, zero-fits)

verification-fits : (state : Bool) (x y : ℕ) → RangedVerification (verification_of state (x % 4294967296) (y % 4294967296))
unfolding verification_of
verification-fits true x y = (omega arith, omega arith)
verification-fits false x y = tt

capability-fits : (l : List ℕ) → RangedCapability (capability_of l)
unfolding capability_of
capability-fits l =
    record {
      id = omega arith;
      resource = omega arith;
      parameter_count = omega arith;
      bounds = two (bounds-fit (word l 5) (word l 6)) (bounds-fit (word l 7) (word l 8));
      require_set = omega arith;
      require_clear = omega arith;
      verification = verification-fits _ (word l 12) (word l 13);
    }

parameters-fit : (l : List ℕ) → Two I32 (submission_of l).action.parameters
unfolding submission_of action_of
parameters-fit l = two (word_fits (word l 14)) (word_fits (word l 15))

-- tables -----------------------------------------------------------------------------------------------------------------

module _ {A : Type 0} (P : A → Type 0) where
  all-tab : (f : ℕ → A) → ((i : ℕ) → P (f i)) → (n : ℕ) → All P (tab f n)
  all-tab f h zero = tt
  all-tab f h (suc n) = (h 0, all-tab (λ (i : ℕ). f (suc i)) (λ i. h (suc i)) n)

  all-table : (d : List ℕ → A) → ((l : List ℕ) → P (d l)) → (w : List ℕ) (off k n : ℕ) → All P (table d w off k n)
  unfolding table
  all-table d h w off k n = all-tab (λ (i : ℕ). d (part w (off + i * k) k)) (λ i. h (part w (off + i * k) k)) n

  all_take : (n : ℕ) (l : List A) → All P l → All P (take n l)
  all_take zero l h = tt
  all_take (suc n) [] h = tt
  all_take (suc n) (x ∷ l) h = (h.0, all_take n l h.1)

  -- an element, or past the end the default
  at : (l : List A) (i : ℕ) (d : A) → All P l → P d → P (get_or l i d)
  at [] i d h p = p
  at (x ∷ l) zero d h p = h.0
  at (x ∷ l) (suc i) d h p = at l i d h.1 p

  -- .. or none
  found : (Q : Option A → Type 0) → Q None → ((a : A) → P a → Q (Some a)) → (l : List A) (i : ℕ) → All P l → Q (slice_get l i)
  found Q n s [] i h = n
  found Q n s (x ∷ l) zero h = s x h.0
  found Q n s (x ∷ l) (suc i) h = found Q n s l i h.1

all_map : {A B : Type 0} (P : A → Type 0) (Q : B → Type 0) (f : A → B) → ((a : A) → P a → Q (f a)) → (l : List A) → All P l → All Q (map f l)
all_map P Q f s [] h = tt
all_map P Q f s (x ∷ l) h = (s x h.0, all_map P Q f s l h.1)

each_map : {A B : Type 0} (Q : B → Type 0) (f : A → B) → ((a : A) → Q (f a)) → (l : List A) → All Q (map f l)
each_map Q f s [] = tt
each_map Q f s (x ∷ l) = (s x, each_map Q f s l)

-- what an index lists
listed-fit : (i : Index) (st : Stores) → All FitsReceipt st.receipts → All FitsReceipt (list_of i st)
unfolding list_of
listed-fit i st h =
    each_map FitsReceipt (in_slot st) (λ s. at FitsReceipt st.receipts s no_receipt h blank-fits) (order i.kinds (rejected_slots i st) (other_slots i st))

-- runtimes ---------------------------------------------------------------------------------------------------------------

-- what a runtime holds that may be told
pub record Holds (rt : Runtime) : Type 0 where
  pub leases : All (λ (s : LeaseSlot). FitsLease s.lease) rt.leases
  pub capabilities : All RangedCapability rt.capabilities
  pub parameters : Two I32 rt.submission.action.parameters
  pub submitted : FitsReceipt rt.submitted
  pub slots : All FitsReceipt rt.slots

-- of any words
pub holds : (w : List ℕ) → Holds (runtime_in w)
unfolding runtime_in
holds w =
    record {
      leases = all-table (λ (s : LeaseSlot). FitsLease s.lease) lease_slot_of lease-fits w 189 12 9;
      capabilities = all-table RangedCapability capability_of capability-fits w 432 14 17;
      parameters = parameters-fit (part w 802 16);
      submitted = receipt-fits (part w 834 21);
      slots = all-table FitsReceipt receipt_of receipt-fits w 855 21 65;
    }

abbrev FitsSlot : Option Lease → Type 0
FitsSlot o = FitsValue (OfLease o)

module _ (rt : Runtime) (h : Holds rt) where
  receipt-at : FitsReceipt (hand_in rt).receipt
  receipt-at = at FitsReceipt rt.slots rt.slot no_receipt h.slots blank-fits

  lease-at : (axis : ℕ) → FitsSlot (lease_at (book_on rt) axis)
  unfolding book_of
  lease-at axis =
      at FitsSlot (map lease_in (take 8 rt.leases)) axis None
      (all_map (λ (s : LeaseSlot). FitsLease s.lease) FitsSlot lease_in (λ s. slot-fits s.presence s.lease) (take 8 rt.leases) (all_take _ 8 rt.leases h.leases)) tt
    where
      slot-fits : (p : Presence) (l : Lease) → FitsLease l → FitsSlot (lease_if p l)
      slot-fits Absent l f = tt
      slot-fits Present l f = f

  item-at : (a : Awaited) → FitsItem (item_at a (hand_in rt) (asked_in rt))
  unfolding item_at
  item-at Awaited.Nothing = receipt-at
  item-at Awaited.ObserveBefore = tt
  item-at Awaited.Execute = h.parameters
  item-at Awaited.ObserveAfter = tt
  item-at Awaited.Fallback = tt
  item-at Awaited.Record = receipt-at

  receipt-answered : (a : AfterRecord) → FitsReceipt (answered_at a (hand_in rt).receipt rt.submitted)
  unfolding answered_at
  receipt-answered AfterRecord.Fallback = h.submitted
  receipt-answered AfterRecord.Lease = h.submitted
  receipt-answered AfterRecord.Executed = receipt-at
  receipt-answered AfterRecord.Failed = receipt-at
  receipt-answered AfterRecord.Rejected = receipt-at

  lease-answered : (o : Option Lease) → FitsSlot o → FitsLease (lease_or no_lease.lease o)
  unfolding lease_or
  lease-answered None f = no-lease-fits
  lease-answered (Some l) f = f

  answer-fits : (a : Answer) → Fits (output_of a (state_in rt))
  unfolding output_of
  answer-fits Answer.Returned = tt
  answer-fits Answer.Unraised = tt
  answer-fits Answer.Raised = tt
  answer-fits Answer.Succeeded = tt
  answer-fits Answer.Leased = lease-answered _ (lease-at rt.axis)
  answer-fits Answer.Refused = tt
  answer-fits Answer.Submitted = receipt-answered rt.waiting.after_record
  answer-fits Answer.Item = item-at rt.waiting.awaited
  answer-fits Answer.ReplyAwaited = (omega arith, item-at rt.waiting.awaited)
  answer-fits Answer.OtherAwaited = (omega arith, item-at rt.waiting.awaited)
  answer-fits Answer.NoReplyAwaited = tt
  answer-fits Answer.NoRuntime = tt
  answer-fits Answer.Started = tt
  answer-fits Answer.InvalidBootId = tt
  answer-fits Answer.InvalidConfig = tt
  answer-fits Answer.InvalidCapability = tt
  answer-fits Answer.DuplicateCapability = tt
  answer-fits Answer.StartupFailed = tt

  read_fits : (q : Reading) → FitsValue (read q (book_on rt))
  unfolding read book_of
  read_fits ReadState = tt
  read_fits ReadEpoch = tt
  read_fits ReadBootId = tt
  read_fits ReadFlags = tt
  read_fits ReadReceiptCount = tt
  read_fits ReadConfig = tt
  read_fits ReadSnapshot = tt
  read_fits (ReadLease axis) = lease-at axis
  read_fits (ReadCapability i) =
      found RangedCapability (λ (o : Option Capability). FitsValue (OfCapability o)) tt (λ c f. f) (take rt.fixed.count rt.capabilities) i
      (all_take RangedCapability rt.fixed.count rt.capabilities h.capabilities)
  read_fits (ReadReceipt i) =
      found FitsReceipt (λ (o : Option Receipt). FitsValue (OfReceipt o)) tt (λ r f. f) (receipts_in rt) i
      (listed-fit rt.places.index (stores_of rt.places rt.slots) (all_take FitsReceipt 64 rt.slots h.slots))

  -- once started the book is the runtime's, whatever is awaited
  book-at : (a : Awaited) (k : Hand) (q : Asked) (b : Book) → book_in (phase_at a k q b) ≡ Some b
  unfolding book_in phase_at wait_book
  book-at Awaited.Nothing k q b = refl
  book-at Awaited.ObserveBefore k q b = refl
  book-at Awaited.Execute k q b = refl
  book-at Awaited.ObserveAfter k q b = refl
  book-at Awaited.Fallback k q b = refl
  book-at Awaited.Record k q b = refl

  reading-fits : (q : Reading) (s : Stage) → Fits (shown q (book_in (phase_at_stage s rt)))
  unfolding shown book_in phase_at_stage phase_of
  reading-fits q Stage.Trying = tt
  reading-fits q Stage.Gone = tt
  reading-fits q Stage.Started =
      subst (λ (o : Option Book). Fits (shown q o)) (sym (book-at rt.waiting.awaited (hand_in rt) (asked_in rt) (book_on rt))) (read_fits q)

  awaited-fits : (a : Awaited) (b : Book) → Fits (item_output (awaited_in (phase_at a (hand_in rt) (asked_in rt) b)))
  unfolding phase_at item_on
  awaited-fits Awaited.Nothing b = tt
  awaited-fits Awaited.ObserveBefore b = tt
  awaited-fits Awaited.Execute b = h.parameters
  awaited-fits Awaited.ObserveAfter b = tt
  awaited-fits Awaited.Fallback b = tt
  awaited-fits Awaited.Record b = receipt-at

  item-fits : (s : Stage) → Fits (item_output (awaited_in (phase_at_stage s rt)))
  unfolding phase_at_stage phase_of
  item-fits Stage.Trying = tt
  item-fits Stage.Gone = tt
  item-fits Stage.Started = awaited-fits rt.waiting.awaited (book_on rt)

-- what is told -----------------------------------------------------------------------------------------------------------

pub fits-answered : (a : Answer) (w : List ℕ) → Fits (output_of a (state_in (runtime_in w)))
fits-answered a w = answer-fits (runtime_in w) (holds w) a

pub fits-shown : (q : Reading) (w : List ℕ) → Fits (shown q (book_in (phase_in (runtime_in w))))
fits-shown q w = reading-fits (runtime_in w) (holds w) q (runtime_in w).starting.stage

pub fits-item : (w : List ℕ) → Fits (item_output (awaited_in (phase_in (runtime_in w))))
fits-item w = item-fits (runtime_in w) (holds w) (runtime_in w).starting.stage

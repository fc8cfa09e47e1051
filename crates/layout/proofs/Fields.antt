-- What is read of the words is the field of the runtime that they are. Assumes nothing.
use Prim.Native.Nat.{ℕ, ◌+◌, ◌*◌, ◌%◌, ◌<◌}
use mathlib.Core.List.{List}
use mathlib.Core.Path.{◌≡◌, refl, sym, ap, ◌∙◌}
use native.Mathlib.Nat.{mul-one, add-zero}
use native.Mathlib.Omega.{arith}
use lib.ListN.{length, get_or}
use Rattle.model.specs.declared.ActiveSlot.{ActiveSlot}
use Rattle.model.specs.declared.Capability.{Capability}
use Rattle.model.specs.declared.LeaseRequest.{LeaseRequest}
use Rattle.model.specs.declared.LeaseSlot.{LeaseSlot}
use Rattle.model.specs.declared.Receipt.{Receipt}
use Rattle.model.specs.declared.Renewal.{Renewal}
use Rattle.model.specs.declared.ReplaySlot.{ReplaySlot}
use Rattle.model.specs.declared.Submission.{Submission}
use Rattle.model.specs.Records.{no_lease, no_active, no_capability, no_replay, no_receipt}
use Rattle.receipts.specs.declared.Index.{Index}
use Rattle.state.specs.declared.Carrying.{Carrying}
use Rattle.state.specs.declared.Falling.{Falling}
use Rattle.state.specs.declared.Fixed.{Fixed}
use Rattle.state.specs.declared.Numbers.{Numbers}
use Rattle.state.specs.declared.Pending.{Pending}
use Rattle.state.specs.declared.Revoked.{Revoked}
use Rattle.state.specs.declared.Waiting.{Waiting}
use Rattle.decide_start.specs.declared.Starting.{Starting}
use Rattle.cells.specs.Cells.{part, table}
use Rattle.cells.proofs.Regions.{get_d-table}
use Rattle.format.specs.Decode.{capability_of, request_of, renewal_of, submission_of, action_of}
use Rattle.rows.specs.Rows.{waiting_of, falling_of, revoked_of, carrying_of, pending_of, starting_of, numbers_of, fixed_of, lease_slot_of, active_slot_of, replay_slot_of, receipt_of, index_of, Headed}
use Rattle.layout.specs.Layout.{slot_number_of, runtime_in}

-- the heads of any words
pub index-headed : (w : List ℕ) {i : Index} → i ≡ (runtime_in w).places.index → Headed i
unfolding runtime_in index_of
index-headed w e = rw e (omega arith, omega arith)

-- fields of their own ----------------------------------------------------------------------------------------------------

module _ (w ws : List ℕ) where
  pub waiting-read : {r : Waiting} → ws ≡ part w 1 16 → r ≡ waiting_of ws → r ≡ (runtime_in w).waiting
  unfolding runtime_in waiting_of part
  waiting-read e f = f ∙ ap waiting_of e

  pub numbers-read : {r : Numbers} → ws ≡ part w 3 16 → r ≡ numbers_of ws → r ≡ (runtime_in w).numbers
  unfolding runtime_in numbers_of part
  numbers-read e f = f ∙ ap numbers_of e

  pub falling-read : {r : Falling} → ws ≡ part w 18 16 → r ≡ falling_of ws → r ≡ (runtime_in w).falling
  unfolding runtime_in falling_of part
  falling-read e f = f ∙ ap falling_of e

  pub revoked-read : {r : Revoked} → ws ≡ part w 25 16 → r ≡ revoked_of ws → r ≡ (runtime_in w).revoked
  unfolding runtime_in revoked_of part
  revoked-read e f = f ∙ ap revoked_of e

  pub carrying-read : {r : Carrying} → ws ≡ part w 28 16 → r ≡ carrying_of ws → r ≡ (runtime_in w).carrying
  unfolding runtime_in carrying_of part
  carrying-read e f = f ∙ ap carrying_of e

  pub pending-read : {r : Pending} → ws ≡ part w 31 16 → r ≡ pending_of ws → r ≡ (runtime_in w).pending
  unfolding runtime_in pending_of part
  pending-read e f = f ∙ ap pending_of e

  pub starting-read : {r : Starting} → ws ≡ part w 36 16 → r ≡ starting_of ws → r ≡ (runtime_in w).starting
  unfolding runtime_in starting_of part
  starting-read e f = f ∙ ap starting_of e

  pub fixed-read : {r : Fixed} → ws ≡ part w 38 16 → r ≡ fixed_of ws → r ≡ (runtime_in w).fixed
  unfolding runtime_in fixed_of part
  fixed-read e f = f ∙ ap fixed_of e

  pub index_read : {r : Index} → ws ≡ part w 54 16 → r ≡ index_of ws → r ≡ (runtime_in w).places.index
  unfolding runtime_in index_of part
  index_read e f = f ∙ ap index_of e

  pub submission-read : {r : Submission} → ws ≡ part w 802 16 → r ≡ submission_of ws → r ≡ (runtime_in w).submission
  unfolding runtime_in submission_of action_of part
  submission-read e f = f ∙ ap submission_of e

  pub request-read : {r : LeaseRequest} → ws ≡ part w 818 16 → r ≡ request_of ws → r ≡ (runtime_in w).request
  unfolding runtime_in request_of part
  request-read e f = f ∙ ap request_of e

  pub renewal-read : {r : Renewal} → ws ≡ part w 828 16 → r ≡ renewal_of ws → r ≡ (runtime_in w).renewal
  unfolding runtime_in renewal_of part
  renewal-read e f = f ∙ ap renewal_of e

  pub submitted-read : {r : Receipt} → ws ≡ part w 834 24 → r ≡ receipt_of ws → r ≡ (runtime_in w).submitted
  unfolding runtime_in receipt_of part
  submitted-read e f = f ∙ ap receipt_of e

-- a window on a capability's row
pub capability-window : (w : List ℕ) (b : ℕ) → capability_of (part w b 16) ≡ capability_of (part w b 14)
unfolding capability_of part
capability-window w b = refl

-- elements of tables -----------------------------------------------------------------------------------------------------

module _ (w ws : List ℕ) (i : ℕ) where
  lease-row : lease_slot_of (part w (189 + i * 12) 16) ≡ lease_slot_of (part w (189 + i * 12) 12)
  unfolding lease_slot_of part
  lease-row = refl

  pub lease-read : {r : LeaseSlot} → i < 9 → ws ≡ part w (189 + i * 12) 16 → r ≡ lease_slot_of ws → r ≡ get_or (runtime_in w).leases i no_lease
  unfolding runtime_in
  lease-read h e f = f ∙ ap lease_slot_of e ∙ lease-row ∙ sym (get_d-table lease_slot_of w 189 12 9 i no_lease h)

  active-row : active_slot_of (part w (297 + i * 15) 16) ≡ active_slot_of (part w (297 + i * 15) 15)
  unfolding active_slot_of capability_of part
  active-row = refl

  pub active-read : {r : ActiveSlot} → i < 9 → ws ≡ part w (297 + i * 15) 16 → r ≡ active_slot_of ws → r ≡ get_or (runtime_in w).active i no_active
  unfolding runtime_in
  active-read h e f = f ∙ ap active_slot_of e ∙ active-row ∙ sym (get_d-table active_slot_of w 297 15 9 i no_active h)

  capability-row : capability_of (part w (432 + i * 14) 16) ≡ capability_of (part w (432 + i * 14) 14)
  unfolding capability_of part
  capability-row = refl

  pub capability-read : {r : Capability} → i < 17 → ws ≡ part w (432 + i * 14) 16 → r ≡ capability_of ws → r ≡ get_or (runtime_in w).capabilities i no_capability
  unfolding runtime_in
  capability-read h e f = f ∙ ap capability_of e ∙ capability-row ∙ sym (get_d-table capability_of w 432 14 17 i no_capability h)

  entry_row : replay_slot_of (part w (670 + i * 4) 16) ≡ replay_slot_of (part w (670 + i * 4) 4)
  unfolding replay_slot_of part
  entry_row = refl

  pub entry_read : {r : ReplaySlot} → i < 33 → ws ≡ part w (670 + i * 4) 16 → r ≡ replay_slot_of ws → r ≡ get_or (runtime_in w).replay i no_replay
  unfolding runtime_in
  entry_read h e f = f ∙ ap replay_slot_of e ∙ entry_row ∙ sym (get_d-table replay_slot_of w 670 4 33 i no_replay h)

  receipt-row : receipt_of (part w (855 + i * 21) 24) ≡ receipt_of (part w (855 + i * 21) 21)
  unfolding receipt_of part
  receipt-row = refl

  pub receipt-read : {r : Receipt} → i < 65 → ws ≡ part w (855 + i * 21) 24 → r ≡ receipt_of ws → r ≡ get_or (runtime_in w).slots i no_receipt
  unfolding runtime_in
  receipt-read h e f = f ∙ ap receipt_of e ∙ receipt-row ∙ sym (get_d-table receipt_of w 855 21 65 i no_receipt h)

-- slot numbers of the circles
module _ (w : List ℕ) (i r : ℕ) (h : i < 65) where
  pub rejected-read : r ≡ get_or w (59 + i) 0 % 256 → r ≡ get_or (runtime_in w).places.rejected i 0
  unfolding runtime_in part
  rejected-read e = e ∙ sym (get_d-table slot_number_of w 59 1 65 i 0 h ∙ ap (λ (n : ℕ). get_or w n 0 % 256) (add-zero (59 + i * 1) ∙ ap (λ (n : ℕ). 59 + n) (mul-one i)))

  pub others-read : r ≡ get_or w (124 + i) 0 % 256 → r ≡ get_or (runtime_in w).places.others i 0
  unfolding runtime_in part
  others-read e = e ∙ sym (get_d-table slot_number_of w 124 1 65 i 0 h ∙ ap (λ (n : ℕ). get_or w n 0 % 256) (add-zero (124 + i * 1) ∙ ap (λ (n : ℕ). 124 + n) (mul-one i)))

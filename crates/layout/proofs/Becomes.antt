-- What the stores leave. Assumes nothing.
use Prim.Native.Nat.{ℕ, ◌+◌, ◌*◌, ◌%◌, ◌<◌, ◌≤◌}
use mathlib.Core.List.{List, [], ◌∷◌}
use mathlib.Core.Logic.{inl}
use mathlib.Core.Path.{◌≡◌, refl, sym, ap, ◌∙◌, subst}
use native.Mathlib.Nat.{mod-eq_of_lt, mul-one, add-zero}
use native.Mathlib.Omega.{arith}
use lib.ListN.{length, get_or, set}
use Rattle.model.specs.declared.ActiveSlot.{ActiveSlot}
use Rattle.model.specs.declared.Capability.{Capability}
use Rattle.model.specs.declared.LeaseRequest.{LeaseRequest}
use Rattle.model.specs.declared.LeaseSlot.{LeaseSlot}
use Rattle.model.specs.declared.Reason.{Reason}
use Rattle.model.specs.declared.Receipt.{Receipt}
use Rattle.model.specs.declared.Renewal.{Renewal}
use Rattle.model.specs.declared.ReplaySlot.{ReplaySlot}
use Rattle.model.specs.declared.Submission.{Submission}
use Rattle.model.specs.Reasons.{number}
use Rattle.model.specs.Records.{no_lease, no_active}
use Rattle.receipts.specs.declared.Index.{Index}
use Rattle.state.specs.declared.Carrying.{Carrying}
use Rattle.state.specs.declared.Falling.{Falling}
use Rattle.state.specs.declared.Fixed.{Fixed}
use Rattle.state.specs.declared.Numbers.{Numbers}
use Rattle.state.specs.declared.Pending.{Pending}
use Rattle.state.specs.declared.Revoked.{Revoked}
use Rattle.state.specs.declared.Waiting.{Waiting}
use Rattle.decide_start.specs.declared.Starting.{Starting}
use Rattle.cells.specs.Cells.{put}
use Rattle.cells.proofs.Regions.{length-put, put-out, word-beside, table_beside}
use Rattle.format.specs.Decode.{capability_of, request_of, renewal_of, submission_of}
use Rattle.format.specs.Encode.{capability_words, lease_words}
use Rattle.rows.specs.Codes.{below, reason_of}
use Rattle.rows.specs.Rows.{waiting_of, waiting_words, falling_of, falling_words, revoked_of, revoked_words, carrying_of, carrying_words, pending_of, pending_words, starting_of, starting_words, numbers_of, numbers_words, fixed_of, fixed_words, lease_slot_of, lease_slot_words, capability_row, active_slot_of, active_slot_words, replay_slot_of, replay_slot_words, receipt_of, receipt_row, request_row, renewal_row, submission_row, index_of, index_words, Rowed}
use Rattle.format.proofs.FieldLaws.{reason-back}
use Rattle.runtime.specs.declared.Runtime.{Runtime}
use Rattle.runtime.specs.Kept.{emptied, idled}
use Rattle.layout.specs.Fields.{with_starting, with_waiting, with_numbers, with_cursor, with_slot, with_axis, with_why, with_falling, with_revoked, with_carrying, with_pending, with_fixed, with_index, with_rejected, with_others, with_leases, with_active, with_capabilities, with_replay, with_submission, with_request, with_renewal, with_submitted, with_slots, receipts_to}
use Rattle.layout.specs.Layout.{Long, runtime_in, listing_in, Same, Becomes}
use Rattle.layout.proofs.Stored as Stored

-- what is listed stands behind the runtime
listed_kept : (w xs : List ℕ) (b : ℕ) → 0 < b → b + length xs ≤ 2220 → listing_in (put w b xs) ≡ listing_in w
unfolding listing_in
listed_kept w xs b h k =
    let low : 1 ≤ b = omega (arith, h) in
    let high : b + length xs ≤ 1 + 2219 = omega (arith, k) in
    simp (word-beside w b xs 1 2219 low high, table_beside w b xs 1 2219 low high)

-- a run of stores behind the first word
put-becomes : (w w' xs : List ℕ) (b : ℕ) (rt : Runtime) → 0 < b → b + length xs ≤ 2220 → w' ≡ put w b xs → runtime_in (put w b xs) ≡ rt → Becomes w w' rt
put-becomes w w' xs b rt h k e s =
    subst (λ (l : List ℕ). Becomes w l rt) (sym e)
    (record {
      same = record { first = put-out w b xs 0 (inl h); long = length-put w b xs; listed = listed_kept w xs b h k };
      stored = s;
    })

-- a row, from which its part is read again
row-becomes : {A : Type 0} (of : List ℕ → A) (with : A → Runtime → Runtime) (w w' ws xs : List ℕ) (x : A) (b : ℕ) → 0 < b → b + length ws ≤ 2220 → w' ≡ put w b ws
    → Rowed of xs x ws → runtime_in (put w b ws) ≡ with (of ws) (runtime_in w) → Becomes w w' (with x (runtime_in w))
row-becomes of with w w' ws xs x b h k e r s =
    put-becomes w w' ws b (with x (runtime_in w)) h k e (s ∙ ap (λ y. with y (runtime_in w)) (ap of r.row ∙ r.back))

-- fields of their own ----------------------------------------------------------------------------------------------------

module _ {w w' ws : List ℕ} where
  pub waiting-becomes : {x : Waiting} → Long w → w' ≡ put w 1 ws → Rowed waiting_of (waiting_words x) x ws → Becomes w w' (with_waiting x (runtime_in w))
  unfolding waiting_words
  waiting-becomes long e r =
      let n : length ws ≡ 2 = ap length r.row in
      row-becomes waiting_of with_waiting w w' ws _ _ 1 (omega arith) (omega (arith, n)) e r (Stored.stored-waiting w ws long n)

  pub numbers-becomes : {x : Numbers} → Long w → w' ≡ put w 3 ws → Rowed numbers_of (numbers_words x) x ws → Becomes w w' (with_numbers x (runtime_in w))
  unfolding numbers_words
  numbers-becomes long e r =
      let n : length ws ≡ 11 = ap length r.row in
      row-becomes numbers_of with_numbers w w' ws _ _ 3 (omega arith) (omega (arith, n)) e r (Stored.stored-numbers w ws long n)

  pub revoked-becomes : {x : Revoked} → Long w → w' ≡ put w 25 ws → Rowed revoked_of (revoked_words x) x ws → Becomes w w' (with_revoked x (runtime_in w))
  unfolding revoked_words
  revoked-becomes long e r =
      let n : length ws ≡ 3 = ap length r.row in
      row-becomes revoked_of with_revoked w w' ws _ _ 25 (omega arith) (omega (arith, n)) e r (Stored.stored-revoked w ws long n)

  pub carrying-becomes : {x : Carrying} → Long w → w' ≡ put w 28 ws → Rowed carrying_of (carrying_words x) x ws → Becomes w w' (with_carrying x (runtime_in w))
  unfolding carrying_words
  carrying-becomes long e r =
      let n : length ws ≡ 3 = ap length r.row in
      row-becomes carrying_of with_carrying w w' ws _ _ 28 (omega arith) (omega (arith, n)) e r (Stored.stored-carrying w ws long n)

  pub pending-becomes : {x : Pending} → Long w → w' ≡ put w 31 ws → Rowed pending_of (pending_words x) x ws → Becomes w w' (with_pending x (runtime_in w))
  unfolding pending_words
  pending-becomes long e r =
      let n : length ws ≡ 5 = ap length r.row in
      row-becomes pending_of with_pending w w' ws _ _ 31 (omega arith) (omega (arith, n)) e r (Stored.stored-pending w ws long n)

  pub starting-becomes : {x : Starting} → Long w → w' ≡ put w 36 ws → Rowed starting_of (starting_words x) x ws → Becomes w w' (with_starting x (runtime_in w))
  unfolding starting_words
  starting-becomes long e r =
      let n : length ws ≡ 2 = ap length r.row in
      row-becomes starting_of with_starting w w' ws _ _ 36 (omega arith) (omega (arith, n)) e r (Stored.stored-starting w ws long n)

  pub fixed-becomes : {x : Fixed} → Long w → w' ≡ put w 38 ws → Rowed fixed_of (fixed_words x) x ws → Becomes w w' (with_fixed x (runtime_in w))
  unfolding fixed_words
  fixed-becomes long e r =
      let n : length ws ≡ 16 = ap length r.row in
      row-becomes fixed_of with_fixed w w' ws _ _ 38 (omega arith) (omega (arith, n)) e r (Stored.stored-fixed w ws long n)

  pub index-becomes : {x : Index} → Long w → w' ≡ put w 54 ws → Rowed index_of (index_words x) x ws → Becomes w w' (with_index x (runtime_in w))
  unfolding index_words
  index-becomes long e r =
      let n : length ws ≡ 5 = ap length r.row in
      row-becomes index_of with_index w w' ws _ _ 54 (omega arith) (omega (arith, n)) e r (Stored.stored-index w ws long n)

  pub submission-becomes : {x : Submission} → Long w → w' ≡ put w 802 ws → Rowed submission_of (submission_row x) x ws → Becomes w w' (with_submission x (runtime_in w))
  unfolding submission_row
  submission-becomes long e r =
      let n : length ws ≡ 16 = ap length r.row in
      row-becomes submission_of with_submission w w' ws _ _ 802 (omega arith) (omega (arith, n)) e r (Stored.stored-submission w ws long n)

  pub request-becomes : {x : LeaseRequest} → Long w → w' ≡ put w 818 ws → Rowed request_of (request_row x) x ws → Becomes w w' (with_request x (runtime_in w))
  unfolding request_row
  request-becomes long e r =
      let n : length ws ≡ 10 = ap length r.row in
      row-becomes request_of with_request w w' ws _ _ 818 (omega arith) (omega (arith, n)) e r (Stored.stored-request w ws long n)

  pub renewal-becomes : {x : Renewal} → Long w → w' ≡ put w 828 ws → Rowed renewal_of (renewal_row x) x ws → Becomes w w' (with_renewal x (runtime_in w))
  unfolding renewal_row
  renewal-becomes long e r =
      let n : length ws ≡ 6 = ap length r.row in
      row-becomes renewal_of with_renewal w w' ws _ _ 828 (omega arith) (omega (arith, n)) e r (Stored.stored-renewal w ws long n)

  pub submitted-becomes : {x : Receipt} → Long w → w' ≡ put w 834 ws → Rowed receipt_of (receipt_row x) x ws → Becomes w w' (with_submitted x (runtime_in w))
  unfolding receipt_row
  submitted-becomes long e r =
      let n : length ws ≡ 21 = ap length r.row in
      row-becomes receipt_of with_submitted w w' ws _ _ 834 (omega arith) (omega (arith, n)) e r (Stored.stored-submitted w ws long n)

  pub falling-becomes : (x : Falling) → Long w → w' ≡ put w 18 ws → ws ≡ falling_words x → Becomes w w' (with_falling (falling_of (falling_words x)) (runtime_in w))
  unfolding falling_words
  falling-becomes x long e r =
      let n : length ws ≡ 7 = ap length r in
      put-becomes w w' ws 18 _ (omega arith) (omega (arith, n)) e
      (Stored.stored-falling w ws long n ∙ ap (λ (y : List ℕ). with_falling (falling_of y) (runtime_in w)) r)

-- numbers of one word ----------------------------------------------------------------------------------------------------

module _ (w : List ℕ) (x : ℕ) where
  -- a store is a run of one
  pub next-becomes : Long w → Becomes w (set w 3 x) (with_numbers (receipts_to x (runtime_in w).numbers) (runtime_in w))
  unfolding put
  next-becomes long = put-becomes w (set w 3 x) (x ∷ []) 3 _ (omega arith) (omega arith) refl (Stored.stored_next w x long)

  pub cursor-becomes : Long w → Becomes w (set w 14 x) (with_cursor (below 32 x) (runtime_in w))
  unfolding put
  cursor-becomes long = put-becomes w (set w 14 x) (x ∷ []) 14 _ (omega arith) (omega arith) refl (Stored.stored-cursor w x long)

  pub slot-becomes : Long w → Becomes w (set w 15 x) (with_slot (below 65 x) (runtime_in w))
  unfolding put
  slot-becomes long = put-becomes w (set w 15 x) (x ∷ []) 15 _ (omega arith) (omega arith) refl (Stored.stored-slot w x long)

  pub axis-becomes : Long w → x < 256 → Becomes w (set w 16 x) (with_axis x (runtime_in w))
  unfolding put
  axis-becomes long h =
      put-becomes w (set w 16 x) (x ∷ []) 16 _ (omega arith) (omega arith) refl
      (Stored.stored-axis w x long ∙ ap (λ (n : ℕ). with_axis n (runtime_in w)) (mod-eq_of_lt h))

pub reason-becomes : (w : List ℕ) (x : ℕ) (r : Reason) → Long w → x ≡ number r → Becomes w (set w 17 x) (with_why (record { reason = r }) (runtime_in w))
unfolding put
reason-becomes w x r long e =
    put-becomes w (set w 17 x) (x ∷ []) 17 _ (omega arith) (omega arith) refl
    (Stored.stored-why w x long ∙ ap (λ (y : Reason). with_why (record { reason = y }) (runtime_in w)) (ap (λ (n : ℕ). reason_of n) e ∙ reason-back r))

-- elements of tables -----------------------------------------------------------------------------------------------------

module _ {w w' ws : List ℕ} (i : ℕ) where
  pub lease-becomes : {x : LeaseSlot} → Long w → i < 9 → w' ≡ put w (189 + i * 12) ws → Rowed lease_slot_of (lease_slot_words x) x ws
      → Becomes w w' (with_leases (set (runtime_in w).leases i x) (runtime_in w))
  unfolding lease_slot_words lease_words
  lease-becomes long h e r =
      let n : length ws ≡ 12 = ap length r.row in
      row-becomes lease_slot_of (λ (y : LeaseSlot) (h : Runtime). with_leases (set h.leases i y) h) w w' ws _ _ (189 + i * 12) (omega arith) (omega (arith, n, h)) e r (Stored.stored-lease w i ws long h n)

  pub active-becomes : {x : ActiveSlot} → Long w → i < 9 → w' ≡ put w (297 + i * 15) ws → Rowed active_slot_of (active_slot_words x) x ws
      → Becomes w w' (with_active (set (runtime_in w).active i x) (runtime_in w))
  unfolding active_slot_words capability_words
  active-becomes long h e r =
      let n : length ws ≡ 15 = ap length r.row in
      row-becomes active_slot_of (λ (y : ActiveSlot) (h : Runtime). with_active (set h.active i y) h) w w' ws _ _ (297 + i * 15) (omega arith) (omega (arith, n, h)) e r (Stored.stored-order w i ws long h n)

  pub capability-becomes : {x : Capability} → Long w → i < 17 → w' ≡ put w (432 + i * 14) ws → Rowed capability_of (capability_row 0 x) x ws
      → Becomes w w' (with_capabilities (set (runtime_in w).capabilities i x) (runtime_in w))
  unfolding capability_words
  capability-becomes long h e r =
      let n : length ws ≡ 14 = ap length r.row in
      row-becomes capability_of (λ (y : Capability) (h : Runtime). with_capabilities (set h.capabilities i y) h) w w' ws _ _ (432 + i * 14) (omega arith) (omega (arith, n, h)) e r (Stored.stored-capability w i ws long h n)

  pub entry-becomes : {x : ReplaySlot} → Long w → i < 33 → w' ≡ put w (670 + i * 4) ws → Rowed replay_slot_of (replay_slot_words x) x ws
      → Becomes w w' (with_replay (set (runtime_in w).replay i x) (runtime_in w))
  unfolding replay_slot_words
  entry-becomes long h e r =
      let n : length ws ≡ 4 = ap length r.row in
      row-becomes replay_slot_of (λ (y : ReplaySlot) (h : Runtime). with_replay (set h.replay i y) h) w w' ws _ _ (670 + i * 4) (omega arith) (omega (arith, n, h)) e r (Stored.stored-entry w i ws long h n)

  pub receipt-becomes : {x : Receipt} → Long w → i < 65 → w' ≡ put w (855 + i * 21) ws → Rowed receipt_of (receipt_row x) x ws
      → Becomes w w' (with_slots (set (runtime_in w).slots i x) (runtime_in w))
  unfolding receipt_row
  receipt-becomes long h e r =
      let n : length ws ≡ 21 = ap length r.row in
      row-becomes receipt_of (λ (y : Receipt) (h : Runtime). with_slots (set h.slots i y) h) w w' ws _ _ (855 + i * 21) (omega arith) (omega (arith, n, h)) e r (Stored.stored-receipt w i ws long h n)

-- slot numbers of the circles, and what one word takes from an axis
module _ (w : List ℕ) (i : ℕ) where
  pub rejected-becomes : (x : ℕ) → Long w → i < 65 → x < 256 → Becomes w (set w (59 + i) x) (with_rejected (set (runtime_in w).places.rejected i x) (runtime_in w))
  unfolding put
  rejected-becomes x long h b =
      put-becomes w (set w (59 + i) x) (x ∷ []) (59 + i * 1) _ (omega arith) (omega arith) (ap (λ (n : ℕ). set w n x) (sym (add-zero (59 + i * 1) ∙ ap (λ (n : ℕ). 59 + n) (mul-one i))))
      (Stored.stored-rejected w i (x ∷ []) long h refl ∙ ap (λ (n : ℕ). with_rejected (set (runtime_in w).places.rejected i n) (runtime_in w)) (mod-eq_of_lt b))

  pub others-becomes : (x : ℕ) → Long w → i < 65 → x < 256 → Becomes w (set w (124 + i) x) (with_others (set (runtime_in w).places.others i x) (runtime_in w))
  unfolding put
  others-becomes x long h b =
      put-becomes w (set w (124 + i) x) (x ∷ []) (124 + i * 1) _ (omega arith) (omega arith) (ap (λ (n : ℕ). set w n x) (sym (add-zero (124 + i * 1) ∙ ap (λ (n : ℕ). 124 + n) (mul-one i))))
      (Stored.stored-others w i (x ∷ []) long h refl ∙ ap (λ (n : ℕ). with_others (set (runtime_in w).places.others i n) (runtime_in w)) (mod-eq_of_lt b))

  pub lease-cleared : Long w → i < 9 → Becomes w (set w (189 + i * 12) 0) (with_leases (set (runtime_in w).leases i (emptied (get_or (runtime_in w).leases i no_lease))) (runtime_in w))
  unfolding put
  lease-cleared long h =
      put-becomes w (set w (189 + i * 12) 0) (0 ∷ []) (189 + i * 12) _ (omega arith) (omega arith) (ap (λ (n : ℕ). set w n 0) (sym (add-zero (189 + i * 12)))) (Stored.cleared-lease w i long h)

  pub active-cleared : Long w → i < 9 → Becomes w (set w (297 + i * 15) 0) (with_active (set (runtime_in w).active i (idled (get_or (runtime_in w).active i no_active))) (runtime_in w))
  unfolding put
  active-cleared long h =
      put-becomes w (set w (297 + i * 15) 0) (0 ∷ []) (297 + i * 15) _ (omega arith) (omega arith) (ap (λ (n : ℕ). set w n 0) (sym (add-zero (297 + i * 15)))) (Stored.cleared-order w i long h)

-- A row stored is its field altered, and nothing else. Assumes nothing.
use Prim.Native.Nat.{ℕ, ◌+◌, ◌*◌, ◌%◌, ◌<◌, ◌≤◌}
use mathlib.Core.List.{List, [], ◌∷◌}
use mathlib.Core.Path.{◌≡◌, refl, sym, ap, ◌∙◌}
use native.Mathlib.Omega.{arith}
use lib.ListN.{length, get_or, set}
use Rattle.model.specs.Records.{no_lease, no_active}
use Rattle.cells.specs.Cells.{part, put, table}
use Rattle.cells.proofs.Regions.{length-put, part-here, word-here, part-first, get_d-table, table-put, table-word, part-beside, word-beside, table_beside}
use Rattle.format.specs.Decode.{capability_of, request_of, renewal_of, submission_of}
use Rattle.rows.specs.Codes.{below, reason_of}
use Rattle.rows.specs.Rows.{waiting_of, falling_of, revoked_of, carrying_of, pending_of, starting_of, numbers_of, fixed_of, lease_slot_of, active_slot_of, replay_slot_of, receipt_of, index_of}
use Rattle.runtime.specs.Kept.{emptied, idled}
use Rattle.layout.specs.Fields.{with_starting, with_waiting, with_numbers, with_cursor, with_slot, with_axis, with_why, with_falling, with_revoked, with_carrying, with_pending, with_fixed, with_index, with_rejected, with_others, with_leases, with_active, with_capabilities, with_replay, with_submission, with_request, with_renewal, with_submitted, with_slots, receipts_to}
use Rattle.layout.specs.Layout.{Long, slot_number_of, runtime_in}

-- fields of their own ----------------------------------------------------------------------------------------------------

module _ (w : List ℕ) (xs : List ℕ) (long : Long w) where
  pub stored-waiting : length xs ≡ 2 → runtime_in (put w 1 xs) ≡ with_waiting (waiting_of xs) (runtime_in w)
  unfolding runtime_in
  stored-waiting e =
      let low : 1 ≤ 1 = omega arith in
      let high : 1 + length xs ≤ 1 + 2 = omega (arith, e) in
      simp (part-here w 1 xs 2 e (omega (arith, long)), part-beside w 1 xs 1 2 low high, word-beside w 1 xs 1 2 low high, table_beside w 1 xs 1 2 low high)

  pub stored-numbers : length xs ≡ 11 → runtime_in (put w 3 xs) ≡ with_numbers (numbers_of xs) (runtime_in w)
  unfolding runtime_in
  stored-numbers e =
      let low : 3 ≤ 3 = omega arith in
      let high : 3 + length xs ≤ 3 + 11 = omega (arith, e) in
      simp (part-here w 3 xs 11 e (omega (arith, long)), part-beside w 3 xs 3 11 low high, word-beside w 3 xs 3 11 low high, table_beside w 3 xs 3 11 low high)

  pub stored-falling : length xs ≡ 7 → runtime_in (put w 18 xs) ≡ with_falling (falling_of xs) (runtime_in w)
  unfolding runtime_in
  stored-falling e =
      let low : 18 ≤ 18 = omega arith in
      let high : 18 + length xs ≤ 18 + 7 = omega (arith, e) in
      simp (part-here w 18 xs 7 e (omega (arith, long)), part-beside w 18 xs 18 7 low high, word-beside w 18 xs 18 7 low high, table_beside w 18 xs 18 7 low high)

  pub stored-revoked : length xs ≡ 3 → runtime_in (put w 25 xs) ≡ with_revoked (revoked_of xs) (runtime_in w)
  unfolding runtime_in
  stored-revoked e =
      let low : 25 ≤ 25 = omega arith in
      let high : 25 + length xs ≤ 25 + 3 = omega (arith, e) in
      simp (part-here w 25 xs 3 e (omega (arith, long)), part-beside w 25 xs 25 3 low high, word-beside w 25 xs 25 3 low high, table_beside w 25 xs 25 3 low high)

  pub stored-carrying : length xs ≡ 3 → runtime_in (put w 28 xs) ≡ with_carrying (carrying_of xs) (runtime_in w)
  unfolding runtime_in
  stored-carrying e =
      let low : 28 ≤ 28 = omega arith in
      let high : 28 + length xs ≤ 28 + 3 = omega (arith, e) in
      simp (part-here w 28 xs 3 e (omega (arith, long)), part-beside w 28 xs 28 3 low high, word-beside w 28 xs 28 3 low high, table_beside w 28 xs 28 3 low high)

  pub stored-pending : length xs ≡ 5 → runtime_in (put w 31 xs) ≡ with_pending (pending_of xs) (runtime_in w)
  unfolding runtime_in
  stored-pending e =
      let low : 31 ≤ 31 = omega arith in
      let high : 31 + length xs ≤ 31 + 5 = omega (arith, e) in
      simp (part-here w 31 xs 5 e (omega (arith, long)), part-beside w 31 xs 31 5 low high, word-beside w 31 xs 31 5 low high, table_beside w 31 xs 31 5 low high)

  pub stored-starting : length xs ≡ 2 → runtime_in (put w 36 xs) ≡ with_starting (starting_of xs) (runtime_in w)
  unfolding runtime_in
  stored-starting e =
      let low : 36 ≤ 36 = omega arith in
      let high : 36 + length xs ≤ 36 + 2 = omega (arith, e) in
      simp (part-here w 36 xs 2 e (omega (arith, long)), part-beside w 36 xs 36 2 low high, word-beside w 36 xs 36 2 low high, table_beside w 36 xs 36 2 low high)

  pub stored-fixed : length xs ≡ 16 → runtime_in (put w 38 xs) ≡ with_fixed (fixed_of xs) (runtime_in w)
  unfolding runtime_in
  stored-fixed e =
      let low : 38 ≤ 38 = omega arith in
      let high : 38 + length xs ≤ 38 + 16 = omega (arith, e) in
      simp (part-here w 38 xs 16 e (omega (arith, long)), part-beside w 38 xs 38 16 low high, word-beside w 38 xs 38 16 low high, table_beside w 38 xs 38 16 low high)

  pub stored-index : length xs ≡ 5 → runtime_in (put w 54 xs) ≡ with_index (index_of xs) (runtime_in w)
  unfolding runtime_in
  stored-index e =
      let low : 54 ≤ 54 = omega arith in
      let high : 54 + length xs ≤ 54 + 5 = omega (arith, e) in
      simp (part-here w 54 xs 5 e (omega (arith, long)), part-beside w 54 xs 54 5 low high, word-beside w 54 xs 54 5 low high, table_beside w 54 xs 54 5 low high)

  pub stored-submission : length xs ≡ 16 → runtime_in (put w 802 xs) ≡ with_submission (submission_of xs) (runtime_in w)
  unfolding runtime_in
  stored-submission e =
      let low : 802 ≤ 802 = omega arith in
      let high : 802 + length xs ≤ 802 + 16 = omega (arith, e) in
      simp (part-here w 802 xs 16 e (omega (arith, long)), part-beside w 802 xs 802 16 low high, word-beside w 802 xs 802 16 low high, table_beside w 802 xs 802 16 low high)

  pub stored-request : length xs ≡ 10 → runtime_in (put w 818 xs) ≡ with_request (request_of xs) (runtime_in w)
  unfolding runtime_in
  stored-request e =
      let low : 818 ≤ 818 = omega arith in
      let high : 818 + length xs ≤ 818 + 10 = omega (arith, e) in
      simp (part-here w 818 xs 10 e (omega (arith, long)), part-beside w 818 xs 818 10 low high, word-beside w 818 xs 818 10 low high, table_beside w 818 xs 818 10 low high)

  pub stored-renewal : length xs ≡ 6 → runtime_in (put w 828 xs) ≡ with_renewal (renewal_of xs) (runtime_in w)
  unfolding runtime_in
  stored-renewal e =
      let low : 828 ≤ 828 = omega arith in
      let high : 828 + length xs ≤ 828 + 6 = omega (arith, e) in
      simp (part-here w 828 xs 6 e (omega (arith, long)), part-beside w 828 xs 828 6 low high, word-beside w 828 xs 828 6 low high, table_beside w 828 xs 828 6 low high)

  pub stored-submitted : length xs ≡ 21 → runtime_in (put w 834 xs) ≡ with_submitted (receipt_of xs) (runtime_in w)
  unfolding runtime_in
  stored-submitted e =
      let low : 834 ≤ 834 = omega arith in
      let high : 834 + length xs ≤ 834 + 21 = omega (arith, e) in
      simp (part-here w 834 xs 21 e (omega (arith, long)), part-beside w 834 xs 834 21 low high, word-beside w 834 xs 834 21 low high, table_beside w 834 xs 834 21 low high)

-- numbers of one word ----------------------------------------------------------------------------------------------------

next-read : (w : List ℕ) (x : ℕ) → numbers_of (set (part w 3 11) 0 x) ≡ receipts_to x (numbers_of (part w 3 11))
unfolding numbers_of part
next-read w x = refl

module _ (w : List ℕ) (x : ℕ) (long : Long w) where
  pub stored_next : runtime_in (put w 3 (x ∷ [])) ≡ with_numbers (receipts_to x (runtime_in w).numbers) (runtime_in w)
  unfolding runtime_in
  stored_next =
      let low : 3 ≤ 3 = omega arith in
      let high : 3 + 1 ≤ 3 + 11 = omega arith in
      simp (part-first w 3 x 11 (omega arith) (omega (arith, long)), next-read w x, part-beside w 3 (x ∷ []) 3 11 low high, word-beside w 3 (x ∷ []) 3 11 low high, table_beside w 3 (x ∷ []) 3 11 low high)

  pub stored-cursor : runtime_in (put w 14 (x ∷ [])) ≡ with_cursor (below 32 x) (runtime_in w)
  unfolding runtime_in
  stored-cursor =
      let low : 14 ≤ 14 = omega arith in
      let high : 14 + 1 ≤ 14 + 1 = omega arith in
      simp (word-here w 14 x (omega (arith, long)), part-beside w 14 (x ∷ []) 14 1 low high, word-beside w 14 (x ∷ []) 14 1 low high, table_beside w 14 (x ∷ []) 14 1 low high)

  pub stored-slot : runtime_in (put w 15 (x ∷ [])) ≡ with_slot (below 65 x) (runtime_in w)
  unfolding runtime_in
  stored-slot =
      let low : 15 ≤ 15 = omega arith in
      let high : 15 + 1 ≤ 15 + 1 = omega arith in
      simp (word-here w 15 x (omega (arith, long)), part-beside w 15 (x ∷ []) 15 1 low high, word-beside w 15 (x ∷ []) 15 1 low high, table_beside w 15 (x ∷ []) 15 1 low high)

  pub stored-axis : runtime_in (put w 16 (x ∷ [])) ≡ with_axis (x % 256) (runtime_in w)
  unfolding runtime_in
  stored-axis =
      let low : 16 ≤ 16 = omega arith in
      let high : 16 + 1 ≤ 16 + 1 = omega arith in
      simp (word-here w 16 x (omega (arith, long)), part-beside w 16 (x ∷ []) 16 1 low high, word-beside w 16 (x ∷ []) 16 1 low high, table_beside w 16 (x ∷ []) 16 1 low high)

  pub stored-why : runtime_in (put w 17 (x ∷ [])) ≡ with_why (record { reason = reason_of x }) (runtime_in w)
  unfolding runtime_in
  stored-why =
      let low : 17 ≤ 17 = omega arith in
      let high : 17 + 1 ≤ 17 + 1 = omega arith in
      simp (word-here w 17 x (omega (arith, long)), part-beside w 17 (x ∷ []) 17 1 low high, word-beside w 17 (x ∷ []) 17 1 low high, table_beside w 17 (x ∷ []) 17 1 low high)

-- elements of tables -----------------------------------------------------------------------------------------------------

module _ (w : List ℕ) (i : ℕ) (xs : List ℕ) (long : Long w) where
  pub stored-rejected : i < 65 → length xs ≡ 1 → runtime_in (put w (59 + i * 1) xs) ≡ with_rejected (set (runtime_in w).places.rejected i (slot_number_of xs)) (runtime_in w)
  unfolding runtime_in
  stored-rejected h e =
      let low : 59 ≤ 59 + i * 1 = omega arith in
      let high : 59 + i * 1 + length xs ≤ 59 + 65 = omega (arith, e) in
      simp (table-put slot_number_of w 59 1 65 i xs e (omega (arith, long)), part-beside w (59 + i * 1) xs 59 65 low high, word-beside w (59 + i * 1) xs 59 65 low high, table_beside w (59 + i * 1) xs 59 65 low high)

  pub stored-others : i < 65 → length xs ≡ 1 → runtime_in (put w (124 + i * 1) xs) ≡ with_others (set (runtime_in w).places.others i (slot_number_of xs)) (runtime_in w)
  unfolding runtime_in
  stored-others h e =
      let low : 124 ≤ 124 + i * 1 = omega arith in
      let high : 124 + i * 1 + length xs ≤ 124 + 65 = omega (arith, e) in
      simp (table-put slot_number_of w 124 1 65 i xs e (omega (arith, long)), part-beside w (124 + i * 1) xs 124 65 low high, word-beside w (124 + i * 1) xs 124 65 low high, table_beside w (124 + i * 1) xs 124 65 low high)

  pub stored-lease : i < 9 → length xs ≡ 12 → runtime_in (put w (189 + i * 12) xs) ≡ with_leases (set (runtime_in w).leases i (lease_slot_of xs)) (runtime_in w)
  unfolding runtime_in
  stored-lease h e =
      let low : 189 ≤ 189 + i * 12 = omega arith in
      let high : 189 + i * 12 + length xs ≤ 189 + 108 = omega (arith, e) in
      simp (table-put lease_slot_of w 189 12 9 i xs e (omega (arith, long)), part-beside w (189 + i * 12) xs 189 108 low high, word-beside w (189 + i * 12) xs 189 108 low high, table_beside w (189 + i * 12) xs 189 108 low high)

  pub stored-order : i < 9 → length xs ≡ 15 → runtime_in (put w (297 + i * 15) xs) ≡ with_active (set (runtime_in w).active i (active_slot_of xs)) (runtime_in w)
  unfolding runtime_in
  stored-order h e =
      let low : 297 ≤ 297 + i * 15 = omega arith in
      let high : 297 + i * 15 + length xs ≤ 297 + 135 = omega (arith, e) in
      simp (table-put active_slot_of w 297 15 9 i xs e (omega (arith, long)), part-beside w (297 + i * 15) xs 297 135 low high, word-beside w (297 + i * 15) xs 297 135 low high, table_beside w (297 + i * 15) xs 297 135 low high)

  pub stored-capability : i < 17 → length xs ≡ 14 → runtime_in (put w (432 + i * 14) xs) ≡ with_capabilities (set (runtime_in w).capabilities i (capability_of xs)) (runtime_in w)
  unfolding runtime_in
  stored-capability h e =
      let low : 432 ≤ 432 + i * 14 = omega arith in
      let high : 432 + i * 14 + length xs ≤ 432 + 238 = omega (arith, e) in
      simp (table-put capability_of w 432 14 17 i xs e (omega (arith, long)), part-beside w (432 + i * 14) xs 432 238 low high, word-beside w (432 + i * 14) xs 432 238 low high, table_beside w (432 + i * 14) xs 432 238 low high)

  pub stored-entry : i < 33 → length xs ≡ 4 → runtime_in (put w (670 + i * 4) xs) ≡ with_replay (set (runtime_in w).replay i (replay_slot_of xs)) (runtime_in w)
  unfolding runtime_in
  stored-entry h e =
      let low : 670 ≤ 670 + i * 4 = omega arith in
      let high : 670 + i * 4 + length xs ≤ 670 + 132 = omega (arith, e) in
      simp (table-put replay_slot_of w 670 4 33 i xs e (omega (arith, long)), part-beside w (670 + i * 4) xs 670 132 low high, word-beside w (670 + i * 4) xs 670 132 low high, table_beside w (670 + i * 4) xs 670 132 low high)

  pub stored-receipt : i < 65 → length xs ≡ 21 → runtime_in (put w (855 + i * 21) xs) ≡ with_slots (set (runtime_in w).slots i (receipt_of xs)) (runtime_in w)
  unfolding runtime_in
  stored-receipt h e =
      let low : 855 ≤ 855 + i * 21 = omega arith in
      let high : 855 + i * 21 + length xs ≤ 855 + 1365 = omega (arith, e) in
      simp (table-put receipt_of w 855 21 65 i xs e (omega (arith, long)), part-beside w (855 + i * 21) xs 855 1365 low high, word-beside w (855 + i * 21) xs 855 1365 low high, table_beside w (855 + i * 21) xs 855 1365 low high)

-- a lease or an order taken from its axis: one word ----------------------------------------------------------------------

lease-emptied : (w : List ℕ) (b : ℕ) → lease_slot_of (set (part w b 12) 0 0) ≡ emptied (lease_slot_of (part w b 12))
unfolding lease_slot_of part
lease-emptied w b = refl

order-idled : (w : List ℕ) (b : ℕ) → active_slot_of (set (part w b 15) 0 0) ≡ idled (active_slot_of (part w b 15))
unfolding active_slot_of capability_of part
order-idled w b = refl

module _ (w : List ℕ) (i : ℕ) (long : Long w) (h : i < 9) where
  pub cleared-lease : runtime_in (put w (189 + i * 12) (0 ∷ [])) ≡ with_leases (set (runtime_in w).leases i (emptied (get_or (runtime_in w).leases i no_lease))) (runtime_in w)
  unfolding runtime_in
  cleared-lease =
      let low : 189 ≤ 189 + i * 12 = omega arith in
      let high : 189 + i * 12 + 1 ≤ 189 + 108 = omega arith in
      simp (table-word lease_slot_of w 189 12 9 i 0 h (omega arith) (omega (arith, long)), lease-emptied, get_d-table lease_slot_of w 189 12 9 i no_lease h, part-beside w (189 + i * 12) (0 ∷ []) 189 108 low high, word-beside w (189 + i * 12) (0 ∷ []) 189 108 low high, table_beside w (189 + i * 12) (0 ∷ []) 189 108 low high)

  pub cleared-order : runtime_in (put w (297 + i * 15) (0 ∷ [])) ≡ with_active (set (runtime_in w).active i (idled (get_or (runtime_in w).active i no_active))) (runtime_in w)
  unfolding runtime_in
  cleared-order =
      let low : 297 ≤ 297 + i * 15 = omega arith in
      let high : 297 + i * 15 + 1 ≤ 297 + 135 = omega arith in
      simp (table-word active_slot_of w 297 15 9 i 0 h (omega arith) (omega (arith, long)), order-idled, get_d-table active_slot_of w 297 15 9 i no_active h, part-beside w (297 + i * 15) (0 ∷ []) 297 135 low high, word-beside w (297 + i * 15) (0 ∷ []) 297 135 low high, table_beside w (297 + i * 15) (0 ∷ []) 297 135 low high)

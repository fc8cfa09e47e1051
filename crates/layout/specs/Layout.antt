-- How a runtime's words lie: which words are which field, and the runtime that they are. The last element of each of a runtime's tables is spare; the words
-- from 2459 on are no field, but stand in the last window.
--
--      0 what the words are, and which version   31 the call in hand          189 leases, 9 rows of 12       818 the request in hand
--      1 what is awaited                         36 the start                 297 orders, 9 rows of 15       828 the renewal in hand
--      3 the numbers                             38 what a start sets         432 capabilities, 17 of 14     834 the receipt kept for an answer
--     14 cursor, slot, axis, reason              54 the receipts' index       670 replay entries, 33 of 4    855 receipts, 65 rows of 21
--     18 the fallback in hand                    59 places of rejections, 65  802 the order submitted        2220 how many are listed for a start
--     25 the lease that it took                 124 places of the others, 65                                2221 those listed, 17 rows of 14
--     28 how far its execution is
use Rattle.std.specs.Prelude.{ℕ, ◌%◌, ◌≤◌, List, ◌≡◌, length, get_or}
use Rattle.cells.specs.Cells.{part, table}
use Rattle.format.specs.Decode.{word, capability_of, request_of, renewal_of, submission_of}
use Rattle.rows.specs.Codes.{below, reason_of}
use Rattle.rows.specs.Rows.{waiting_of, falling_of, revoked_of, carrying_of, pending_of, starting_of, numbers_of, fixed_of, lease_slot_of, active_slot_of, replay_slot_of, receipt_of, index_of}
use Rattle.decide_start.specs.declared.Listed.{Listed}
use Rattle.runtime.specs.declared.Places.{Places}
use Rattle.runtime.specs.declared.Runtime.{Runtime}
use Rattle.layout.specs.Fields.{built}

-- how many words a host lends
abbrev pub size : ℕ
size = 2464

-- a slot number of a circle
abbrev pub slot_number_of : List ℕ → ℕ
slot_number_of l = word l 0 % 256

abbrev pub places_in : List ℕ → Places
places_in w =
    record {
      index = index_of (part w 54 5);
      rejected = table slot_number_of w 59 1 65;
      others = table slot_number_of w 124 1 65;
    }

unfoldable pub runtime_in : List ℕ → Runtime
runtime_in w =
    built (starting_of (part w 36 2)) (waiting_of (part w 1 2)) (numbers_of (part w 3 11)) (below 32 (get_or w 14 0)) (below 65 (get_or w 15 0)) (get_or w 16 0 % 256)
    (record { reason = reason_of (get_or w 17 0) }) (falling_of (part w 18 7)) (revoked_of (part w 25 3)) (carrying_of (part w 28 3)) (pending_of (part w 31 5))
    (fixed_of (part w 38 16)) (places_in w) (table lease_slot_of w 189 12 9) (table active_slot_of w 297 15 9) (table capability_of w 432 14 17)
    (table replay_slot_of w 670 4 33) (submission_of (part w 802 16)) (request_of (part w 818 10)) (renewal_of (part w 828 6)) (receipt_of (part w 834 21))
    (table receipt_of w 855 21 65)

-- as many words as there are to be
abbrev pub Long : List ℕ → Type 0
Long w = size ≤ length w

-- what is listed for the next start
unfoldable pub listing_in : List ℕ → Listed
listing_in w = record { records = table capability_of w 2221 14 17; count = below 18 (get_or w 2220 0) }

-- as many words as before, the same first one, and what is listed as it was
pub record Same (w w' : List ℕ) : Type 0 where
  pub first : get_or w' 0 0 ≡ get_or w 0 0
  pub long : length w' ≡ length w
  pub listed : listing_in w' ≡ listing_in w

-- what a store leaves
pub record Becomes (w w' : List ℕ) (rt : Runtime) : Type 0 where
  pub same : Same w w'
  pub stored : runtime_in w' ≡ rt

-- .. of what is listed for the next start: the runtime is as it was
pub record Lists (w w' : List ℕ) (l : Listed) : Type 0 where
  pub first : get_or w' 0 0 ≡ get_or w 0 0
  pub long : length w' ≡ length w
  pub runtime : runtime_in w' ≡ runtime_in w
  pub listed : listing_in w' ≡ l

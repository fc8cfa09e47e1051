-- A card file of receipts (02, item 1). The quoted sentences are its.
use Rattle.std.specs.Prelude.{ℕ, zero, suc, ◌+◌, ◌*◌, ◌/◌, ◌%◌, Bool, true, false, ◌&&◌, cond, List, [], ◌∷◌, ◌++◌, eqb, leb, ℤ, pos, length, take, drop, get_or, Option, Some, None, option_and_then}
use Rattle.model.specs.Decisions.{decision_number, decision_at}
use Rattle.model.specs.Reasons.{number, reason_at}
use Rattle.model.specs.declared.Decision.{Decision}
use Rattle.model.specs.declared.Reason.{Reason}
use Rattle.model.specs.declared.Receipt.{Receipt}
use Rattle.words.specs.Signs.{unsigned, signed}
use Rattle.words.specs.Words.{little_end, little_number}

-- a receipt as 22 numbers ------------------------------------------------------------------------------------------------

-- How many bytes each field takes: "in their type's width (decision one byte, reason two); a pair is one field of eight bytes, ..; the two
-- yes/no fields take no bytes". In the order of `Receipt` in model.rs, which is not that of our struct.
unfoldable pub widths : List ℕ
widths =
    8 ∷ 8 ∷ 4 ∷ 8 ∷ 8 ∷ 8 ∷ 2 ∷ 1 ∷ 8 ∷ 1 ∷ 2 ∷ 8 ∷ 8 ∷ 8 ∷ 8 ∷ 8 ∷ 8 ∷ 4 ∷ 4 ∷ 8 ∷ 0 ∷ 0 ∷ []

-- "first number in front, both in two's complement": as bytes come low first, the first number is the low half of eight bytes
unfoldable pub pair_number : List ℤ → ℕ
pair_number zs = unsigned (get_or zs 0 (pos 0)) + 4294967296 * unsigned (get_or zs 1 (pos 0))

unfoldable pub pair_of : ℕ → List ℤ
pair_of n = signed (n % 4294967296) ∷ signed (n / 4294967296) ∷ []

-- a yes/no field
unfoldable pub bit : Bool → ℕ
bit false = 0
bit true = 1

-- the fields in model.rs's order, each as one number
unfoldable pub numbers_of : Receipt → List ℕ
numbers_of r =
    r.boot_id
    ∷ r.principal
    ∷ r.safety_flags
    ∷ r.receipt_id
    ∷ r.action_id
    ∷ r.sequence
    ∷ r.capability
    ∷ r.resource
    ∷ r.lease_id
    ∷ decision_number r.decision
    ∷ number r.reason
    ∷ r.epoch
    ∷ r.received_at
    ∷ r.admitted_at
    ∷ r.executed_at
    ∷ pair_number r.requested
    ∷ pair_number r.observed
    ∷ r.pre_state
    ∷ r.post_state
    ∷ r.original_receipt
    ∷ bit r.dispatched
    ∷ bit r.observed_valid
    ∷ []

-- the nth field, counted from 0
abbrev pub nth : List ℕ → ℕ → ℕ
nth ns n = get_or ns n 0

unfoldable pub receipt_with : Decision → Reason → List ℕ → Receipt
receipt_with decision reason ns =
    record {
      boot_id = nth ns 0;
      principal = nth ns 1;
      safety_flags = nth ns 2;
      receipt_id = nth ns 3;
      action_id = nth ns 4;
      sequence = nth ns 5;
      capability = nth ns 6;
      resource = nth ns 7;
      lease_id = nth ns 8;
      decision = decision;
      reason = reason;
      epoch = nth ns 11;
      received_at = nth ns 12;
      admitted_at = nth ns 13;
      executed_at = nth ns 14;
      requested = pair_of (nth ns 15);
      observed = pair_of (nth ns 16);
      pre_state = nth ns 17;
      post_state = nth ns 18;
      original_receipt = nth ns 19;
      dispatched = eqb (nth ns 20) 1;
      observed_valid = eqb (nth ns 21) 1;
    }

-- the receipt of 22 numbers; none for "a decision or reason that has no number"
unfoldable pub receipt_from : Option Decision → Option Reason → List ℕ → Option Receipt
receipt_from (Some d) (Some e) ns = Some (receipt_with d e ns)
receipt_from (Some d) None ns = None
receipt_from None e ns = None

unfoldable pub receipt_of : List ℕ → Option Receipt
receipt_of ns = receipt_from (decision_at (nth ns 9)) (reason_at (nth ns 10)) ns

-- writing ----------------------------------------------------------------------------------------------------------------

-- "A bit stands exactly when its field is not zero or false". A pair is zero where both its numbers are.
unfoldable pub stands : ℕ → Bool
stands zero = false
stands (suc n) = true

-- "bit n stands for the nth field of `Receipt` in `model.rs`, counted from 0"
unfoldable pub map_of : List ℕ → ℕ
map_of [] = 0
map_of (n ∷ ns) = bit (stands n) + 2 * map_of ns

-- "and only those fields follow in that order, low byte first, in their type's width"
unfoldable pub fields_of : List ℕ → List ℕ → List ℕ
fields_of [] ns = []
fields_of (w ∷ ws) [] = []
fields_of (w ∷ ws) (n ∷ ns) = cond (stands n) (little_end w n) [] ++ fields_of ws ns

-- "The body opens with a four-byte map, low byte first"
unfoldable pub body_of : List ℕ → List ℕ → List ℕ
body_of ws ns = little_end 4 (map_of ns) ++ fields_of ws ns

unfoldable pub sum : List ℕ → ℕ
sum [] = 0
sum (b ∷ bs) = b + sum bs

-- "a length byte L, a body of L bytes, then the sum of length byte and body as two bytes, low first"
unfoldable pub framed : List ℕ → List ℕ
framed body = length body ∷ (body ++ little_end 2 (length body + sum body))

-- a receipt's record
unfoldable pub record_of : Receipt → List ℕ
record_of r = framed (body_of widths (numbers_of r))

unfoldable pub records_of : List Receipt → List ℕ
records_of [] = []
records_of (r ∷ rs) = record_of r ++ records_of rs

-- "A card file begins with the four fixed bytes 52 43 54 31 (hexadecimal)"
unfoldable pub head : List ℕ
head = 0x52 ∷ 0x43 ∷ 0x54 ∷ 0x31 ∷ []

unfoldable pub card_of : List Receipt → List ℕ
card_of rs = head ++ records_of rs

-- reading ----------------------------------------------------------------------------------------------------------------

-- The answers: "121 wrong or short head, tested first; then for each record 122 if it ends past the file; then 123 for any other
-- broken rule, or a decision or reason that has no number"
abbrev pub wrong_head : ℕ
wrong_head = 121

abbrev pub past_end : ℕ
past_end = 122

abbrev pub unsound : ℕ
unsound = 123

-- A field by its bit, from the bytes at its place. A clear bit: 0. A bit that stands: 1 for a yes/no field, else the number of the field's
-- bytes. None where these are missing, or are all 0: the bit stands "exactly when its field is not zero".
unfoldable pub field_in : Bool → ℕ → List ℕ → Option ℕ
field_in false w bs = Some 0
field_in true zero bs = Some 1
field_in true (suc w) bs =
    let n = little_number (take (suc w) bs) in
    cond (leb (suc w) (length bs) && stands n) (Some n) None

unfoldable pub joined : Option ℕ → Option (List ℕ) → Option (List ℕ)
joined (Some n) (Some ns) = Some (n ∷ ns)
joined (Some n) None = None
joined None ns = None

abbrev pub odd : ℕ → Bool
odd m = eqb (m % 2) 1

-- The fields by a map, from the bytes after it. Past the last field nothing is left: no byte, and no bit of the map. With 22 widths that is
-- "bits 22 to 31 are 0".
unfoldable pub fields_in : List ℕ → ℕ → List ℕ → Option (List ℕ)
fields_in [] zero [] = Some []
fields_in [] zero (b ∷ bs) = None
fields_in [] (suc m) bs = None
fields_in (w ∷ ws) m bs = joined (field_in (odd m) w bs) (fields_in ws (m / 2) (drop (cond (odd m) w 0) bs))

-- "L is 4 to 126", and the last two bytes are "the sum of length byte and body"
unfoldable pub is_framed : ℕ → List ℕ → List ℕ → Bool
is_framed L body last = leb 4 L && (leb L 126 && eqb (little_number last) (L + sum body))

-- the receipt of a record, from its length byte, its body and its last two bytes
unfoldable pub receipt_in : ℕ → List ℕ → List ℕ → Option Receipt
receipt_in L body last =
    cond (is_framed L body last) (option_and_then receipt_of (fields_in widths (little_number (take 4 body)) (drop 4 body))) None

-- what stands where a record may begin: the end of the file, a receipt with the bytes after its record, or a refusal
pub data Found : Type 0 where
  Ends : Found
  Accepts : Receipt → List ℕ → Found
  Refuses : ℕ → Found

unfoldable pub judged : Option Receipt → List ℕ → Found
judged (Some r) rest = Accepts r rest
judged None rest = Refuses unsound

-- "122 if it ends past the file; then 123 for any other": 122 comes before the rule on L too
unfoldable pub entry_in : List ℕ → Found
entry_in [] = Ends
entry_in (L ∷ bs) =
    cond (leb (L + 3) (length (L ∷ bs)))
    (judged (receipt_in L (take L bs) (take 2 (drop L bs))) (drop (L + 2) bs))
    (Refuses past_end)

-- what a file holds: the receipts, and the number that ended the reading, or 0 at the end of the file
pub record Contents : Type 0 where
  pub receipts : List Receipt
  pub answer : ℕ

abbrev pub holding : List Receipt → ℕ → Contents
holding rs n = record { receipts = rs; answer = n }

abbrev pub ended : ℕ → Contents
ended n = holding [] n

-- "A refused record hands out nothing and ends the reading; those before it stand"
unfoldable pub onward : Found → Contents → Contents
onward Ends later = ended 0
onward (Accepts r rest) later = record { receipts = r ∷ later.receipts; answer = later.answer }
onward (Refuses n) later = ended n

-- The records of bytes of which the first `left` are what is left of the record before. It goes byte by byte, so the bytes themselves bound
-- it: L + 2 bytes follow the length byte of an accepted record, and `entry_in` has seen that they are there.
unfoldable pub records_in : ℕ → List ℕ → Contents
records_in left [] = ended 0
records_in (suc left) (b ∷ bs) = records_in left bs
records_in zero (L ∷ bs) = onward (entry_in (L ∷ bs)) (records_in (L + 2) bs)

unfoldable pub same : List ℕ → List ℕ → Bool
same [] [] = true
same [] (y ∷ ys) = false
same (x ∷ xs) [] = false
same (x ∷ xs) (y ∷ ys) = eqb x y && same xs ys

-- false for a head that is short too
unfoldable pub has_head : List ℕ → Bool
has_head file = same (take 4 file) head

unfoldable pub read_card : List ℕ → Contents
read_card file = cond (has_head file) (records_in 0 (drop 4 file)) (ended wrong_head)

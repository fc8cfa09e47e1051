-- What is proved of card files (02, item 1). The quoted sentences are its.
use Rattle.std.specs.Prelude.{ℕ, ◌+◌, ◌^◌, ◌<◌, ◌≤◌, true, false, List, [], ◌∷◌, ◌++◌, map, ◌⊎◌, ◌≢◌, ◌↔◌, ◌≡◌, ℤ, length, take, drop, get_or, Some, Ok}
use denote.Laws.{Is}
use Rattle.std.specs.Int.{w32}
use mir.Val.{SFits, Val}
use Rattle.model.specs.contracts.Receipt.{the_row}
use Rattle.model.specs.declared.Receipt.{Receipt}
use Rattle.words.specs.Words.{Bytes, little_end, little_number, bytes_of}
use Rattle.card.specs.Card.{widths, numbers_of, body_of, sum, record_of, records_of, head, card_of, wrong_head, past_end, unsound, Accepts, Refuses, entry_in, holding, has_head, read_card}
use Rattle.card.specs.Functions.{has_room, written, count, read_at, read_all}
use Rattle.card.specs.Wire.{wire_words, wire_receipt, Hosted, last_answer, last_place}

-- receipts ---------------------------------------------------------------------------------------------------------------

abbrev pub I32 : ℤ → Type 0
I32 z = SFits w32 z

-- a list of two such numbers
pub data Pair : List ℤ → Type 0 where
  pair : {x y : ℤ} → I32 x → I32 y → Pair (x ∷ y ∷ [])

-- Each field is within its type. A decision, a reason and a yes/no field always are.
pub record Fits (r : Receipt) : Type 0 where
  pub boot_id : r.boot_id < 2 ^ 64
  pub principal : r.principal < 2 ^ 64
  pub safety_flags : r.safety_flags < 2 ^ 32
  pub receipt_id : r.receipt_id < 2 ^ 64
  pub action_id : r.action_id < 2 ^ 64
  pub sequence : r.sequence < 2 ^ 64
  pub capability : r.capability < 2 ^ 16
  pub resource : r.resource < 2 ^ 8
  pub lease_id : r.lease_id < 2 ^ 64
  pub epoch : r.epoch < 2 ^ 64
  pub received_at : r.received_at < 2 ^ 64
  pub admitted_at : r.admitted_at < 2 ^ 64
  pub executed_at : r.executed_at < 2 ^ 64
  pub requested : Pair r.requested
  pub observed : Pair r.observed
  pub pre_state : r.pre_state < 2 ^ 32
  pub post_state : r.post_state < 2 ^ 32
  pub original_receipt : r.original_receipt < 2 ^ 64

abbrev pub AllFit : List Receipt → Type 0
AllFit [] = Unit
AllFit (r ∷ rs) = Fits r × AllFit rs

-- records ----------------------------------------------------------------------------------------------------------------

-- the bytes are the receipt's record, and then the rest
pub record Holds (bs : List ℕ) (r : Receipt) (rest : List ℕ) : Type 0 where
  pub fits : Fits r
  pub bytes : bs ≡ record_of r ++ rest

-- "L is 4 to 126": with the length byte and the sum, 7 to 129 bytes. The sum is at most 126 times 256, so two bytes hold it unreduced.
pub record Sized (r : Receipt) : Type 0 where
  pub least : 7 ≤ length (record_of r)
  pub most : length (record_of r) ≤ 129
  pub total : length (body_of widths (numbers_of r)) + sum (body_of widths (numbers_of r)) ≤ 32256
  pub bytes : Bytes (record_of r)

-- files ------------------------------------------------------------------------------------------------------------------

-- a file reads as these receipts and this answer
abbrev pub Reads : List ℕ → List Receipt → ℕ → Type 0
Reads file rs n = read_card file ≡ holding rs n

-- a card of these receipts that goes on: with a length byte L and the bytes after it, of which P holds
pub record GoesOn (file : List ℕ) (rs : List Receipt) (P : ℕ → List ℕ → Type 0) : Type 0 where
  pub fit : AllFit rs
  pub L : ℕ
  pub after : List ℕ
  pub bytes : file ≡ card_of rs ++ (L ∷ after)
  pub so : P L after

-- the record is refused with this number
abbrev pub Refused : ℕ → ℕ → List ℕ → Type 0
Refused n L after = entry_in (L ∷ after) ≡ Refuses n

-- it ends past the file
abbrev pub EndsPast : ℕ → List ℕ → Type 0
EndsPast L after = length (L ∷ after) < L + 3

-- it ends in the file, and is no receipt's record
pub record Broken (L : ℕ) (after : List ℕ) : Type 0 where
  pub whole : L + 3 ≤ length (L ∷ after)
  pub none : (r : Receipt) (rest : List ℕ) → Fits r → L ∷ after ≢ record_of r ++ rest

-- the claim --------------------------------------------------------------------------------------------------------------

pub record CardClaim : Type 0 where
  -- "Writer and reader are both wanted, inverse to each other on every receipt ..
  pub written_read : (r : Receipt) (rest : List ℕ) → Fits r → entry_in (record_of r ++ rest) ≡ Accepts r rest
  -- .. and every accepted record."
  pub read-written : (bs : List ℕ) (r : Receipt) (rest : List ℕ) → Bytes bs → entry_in bs ≡ Accepts r rest → Holds bs r rest
  -- it is the first L + 3 bytes, and the rest are the others
  pub first-bytes : (bs : List ℕ) (r : Receipt) (rest : List ℕ) → Bytes bs → entry_in bs ≡ Accepts r rest
      → (take (get_or bs 0 0 + 3) bs ≡ record_of r) × (drop (get_or bs 0 0 + 3) bs ≡ rest)
  -- the same of whole files: 0 is the answer at the end of a file
  pub card-read : (rs : List Receipt) → AllFit rs → Reads (card_of rs) rs 0
  pub read-card : (file : List ℕ) (rs : List Receipt) → Bytes file → Reads file rs 0 → AllFit rs × (file ≡ card_of rs)
  -- "A refused record hands out nothing and ends the reading; those before it stand."
  pub before-stand : (file : List ℕ) (rs : List Receipt) (n : ℕ) → Bytes file → n ≢ 0 → n ≢ wrong_head → Reads file rs n
      → ((n ≡ past_end) ⊎ (n ≡ unsound)) × GoesOn file rs (Refused n)
  -- "121 wrong or short head, tested first": whatever follows, and with no receipt
  pub has-head : (file : List ℕ) → (has_head file ≡ true) ↔ (take 4 file ≡ head)
  pub wrong-head : (file : List ℕ) → ((read_card file).answer ≡ wrong_head) ↔ (has_head file ≡ false)
  pub no-receipts : (file : List ℕ) → has_head file ≡ false → Reads file [] wrong_head
  -- "then for each record 122 if it ends past the file"
  pub ends-past : (file : List ℕ) (rs : List Receipt) → Bytes file → Reads file rs past_end ↔ GoesOn file rs EndsPast
  -- "then 123 for any other broken rule, or a decision or reason that has no number"
  pub is-unsound : (file : List ℕ) (rs : List Receipt) → Bytes file → Reads file rs unsound ↔ GoesOn file rs Broken
  -- The reader's loop, `has_head` and then `read_at` at each next place, reads a file so.
  pub loop : (file : List ℕ) → read_all file ≡ read_card file
  -- So does a host's, by `rolthai_card_read`: it keeps the words of each receipt and ends with the file's answer, behind the records of these receipts;
  -- and no run of it does else.
  pub hosted : (file out : List ℕ) → Bytes file → 192 ≤ length out
      → Hosted file out (map (λ (r : Receipt). bytes_of (wire_words r)) (read_card file).receipts) (last_answer (read_card file).answer) (last_place file)
  pub hosted-only : (file out : List ℕ) (kept : List (List ℕ)) (n place : ℕ) → Bytes file → 192 ≤ length out → Hosted file out kept n place
      → (kept ≡ map (λ (r : Receipt). bytes_of (wire_words r)) (read_card file).receipts) × (n ≡ last_answer (read_card file).answer)
      × (place ≡ last_place file)
  -- A receipt and its 192 bytes of words determine each other.
  pub words-read : (r : Receipt) → Fits r → wire_receipt (bytes_of (wire_words r)) ≡ Some r
  pub read-words : (bs : List ℕ) (r : Receipt) → Bytes bs → wire_receipt bs ≡ Some r → Fits r × (bytes_of (wire_words r) ≡ bs)
  -- Where there was room, what the writer wrote at a place is read there, and the next place is as many bytes on as it answered.
  pub placed : (card : List ℕ) (at : ℕ) (r : Receipt) → Fits r → has_room card at (record_of r) ≡ true
      → read_at (written card at (record_of r)) at ≡ Ok (Some (record { receipt = r; next = at + count card at (record_of r) }))
  -- Every receipt that the code can hold, by the values that a `Receipt` may have, fits its types: it has a record.
  pub held : (r : Receipt) (vs : List Val) → Is the_row r vs → Fits r
  -- A card to which receipts are added is the card of them all. Where the writing of a record is cut, those before it stand.
  pub appended : (rs more : List Receipt) → card_of (rs ++ more) ≡ card_of rs ++ records_of more
  pub cut : (rs : List Receipt) (r : Receipt) (k : ℕ) → AllFit rs → 0 < k → k < length (record_of r)
      → Reads (card_of rs ++ take k (record_of r)) rs past_end
  -- the length, the sum and the bytes of a record
  pub sized : (r : Receipt) → Sized r
  -- a number and its bytes, at any width
  pub number : (w n : ℕ) → n < 256 ^ w → little_number (little_end w n) ≡ n

-- A receipt in words, and what the functions for hosts in other languages do with it.
use Rattle.std.specs.Prelude.{ℕ, zero, suc, ◌+◌, ◌*◌, ◌/◌, ◌%◌, Bool, true, ◌&&◌, cond, List, [], ◌∷◌, ◌≢◌, ◌≡◌, eqb, leb, ltb, length, take, drop, get_or, Option, Some, None}
use Rattle.model.specs.declared.Receipt.{Receipt}
use Rattle.words.specs.Words.{words_at, bytes_of, over}
use Rattle.card.specs.Card.{numbers_of, nth, receipt_of, record_of, card_of, entry_in, Found, Ends, Accepts, Refuses, has_head, wrong_head, read_card}
use Rattle.card.specs.Functions.{written, count}

-- 24 words ---------------------------------------------------------------------------------------------------------------

-- docs/WIRE.md, "A receipt": 24 words, the fields in order, a pair as two. The most that each may be.
unfoldable pub wire_limits : List ℕ
wire_limits =
    0xffff_ffff_ffff_ffff
    ∷ 0xffff_ffff_ffff_ffff
    ∷ 0xffff_ffff
    ∷ 0xffff_ffff_ffff_ffff
    ∷ 0xffff_ffff_ffff_ffff
    ∷ 0xffff_ffff_ffff_ffff
    ∷ 0xffff
    ∷ 0xff
    ∷ 0xffff_ffff_ffff_ffff
    ∷ 0xff
    ∷ 0xffff
    ∷ 0xffff_ffff_ffff_ffff
    ∷ 0xffff_ffff_ffff_ffff
    ∷ 0xffff_ffff_ffff_ffff
    ∷ 0xffff_ffff_ffff_ffff
    ∷ 0xffff_ffff
    ∷ 0xffff_ffff
    ∷ 0xffff_ffff
    ∷ 0xffff_ffff
    ∷ 0xffff_ffff
    ∷ 0xffff_ffff
    ∷ 0xffff_ffff_ffff_ffff
    ∷ 1
    ∷ 1
    ∷ []

unfoldable pub within : List ℕ → List ℕ → Bool
within [] ls = true
within (w ∷ ws) [] = true
within (w ∷ ws) (l ∷ ls) = leb w l && within ws ls

-- words as 22 numbers, and back
unfoldable pub wire_numbers : List ℕ → List ℕ
wire_numbers ws =
    nth ws 0
    ∷ nth ws 1
    ∷ nth ws 2
    ∷ nth ws 3
    ∷ nth ws 4
    ∷ nth ws 5
    ∷ nth ws 6
    ∷ nth ws 7
    ∷ nth ws 8
    ∷ nth ws 9
    ∷ nth ws 10
    ∷ nth ws 11
    ∷ nth ws 12
    ∷ nth ws 13
    ∷ nth ws 14
    ∷ (nth ws 15 + 4294967296 * nth ws 16)
    ∷ (nth ws 17 + 4294967296 * nth ws 18)
    ∷ nth ws 19
    ∷ nth ws 20
    ∷ nth ws 21
    ∷ nth ws 22
    ∷ nth ws 23
    ∷ []

unfoldable pub wire_words_from : List ℕ → List ℕ
wire_words_from ns =
    nth ns 0
    ∷ nth ns 1
    ∷ nth ns 2
    ∷ nth ns 3
    ∷ nth ns 4
    ∷ nth ns 5
    ∷ nth ns 6
    ∷ nth ns 7
    ∷ nth ns 8
    ∷ nth ns 9
    ∷ nth ns 10
    ∷ nth ns 11
    ∷ nth ns 12
    ∷ nth ns 13
    ∷ nth ns 14
    ∷ (nth ns 15 % 4294967296)
    ∷ (nth ns 15 / 4294967296)
    ∷ (nth ns 16 % 4294967296)
    ∷ (nth ns 16 / 4294967296)
    ∷ nth ns 17
    ∷ nth ns 18
    ∷ nth ns 19
    ∷ nth ns 20
    ∷ nth ns 21
    ∷ []

unfoldable pub wire_words : Receipt → List ℕ
wire_words r = wire_words_from (numbers_of r)

-- the receipt of 192 bytes; none where there are more or fewer, a word is above its field, or a decision or reason has no number
unfoldable pub wire_receipt : List ℕ → Option Receipt
wire_receipt bs =
    let ws = words_at 24 bs 0 in cond (eqb (length bs) 192 && within ws wire_limits) (receipt_of (wire_numbers ws)) None

-- one call ---------------------------------------------------------------------------------------------------------------

-- what is written at the front of a card, and how much
unfoldable pub wire_written : Option Receipt → List ℕ → List ℕ
wire_written (Some r) card = written card 0 (record_of r)
wire_written None card = card

unfoldable pub wire_count : Option Receipt → List ℕ → ℕ
wire_count (Some r) card = count card 0 (record_of r)
wire_count None card = 0

-- what is answered, and what stands where the receipt's words go: only an accepted record alters it
unfoldable pub head_answer : List ℕ → ℕ
head_answer card = cond (has_head card) 0 wrong_head

unfoldable pub entry_answer : Found → ℕ
entry_answer Ends = 1
entry_answer (Accepts r rest) = 0
entry_answer (Refuses n) = n

unfoldable pub entry_read : Found → List ℕ → List ℕ
entry_read Ends out = out
entry_read (Accepts r rest) out = over out 0 (bytes_of (wire_words r))
entry_read (Refuses n) out = out

unfoldable pub wire_answer : List ℕ → ℕ → List ℕ → ℕ
wire_answer card at out =
    cond (ltb at 4) (head_answer card) (cond (ltb (length out) 192) 2 (entry_answer (entry_in (drop at card))))

unfoldable pub wire_read : List ℕ → ℕ → List ℕ → List ℕ
wire_read card at out =
    cond (ltb at 4) out (cond (ltb (length out) 192) out (entry_read (entry_in (drop at card)) out))

-- a host's loop ----------------------------------------------------------------------------------------------------------

-- The readings from a place on: at each answer 0 the first 192 bytes are kept and the next reading is at the place after the record, until
-- another answer comes. What is kept, that answer, and the place where it came.
pub data Readings (card : List ℕ) : ℕ → List ℕ → List (List ℕ) → ℕ → ℕ → Type 0 where
  last : {at : ℕ} {out : List ℕ} {n : ℕ} → wire_answer card at out ≡ n → n ≢ 0 → Readings card at out [] n at
  next : {at : ℕ} {out : List ℕ} {kept : List (List ℕ)} {n place : ℕ} → wire_answer card at out ≡ 0
      → Readings card (at + get_or card at 0 + 3) (wire_read card at out) kept n place
      → Readings card at out (take 192 (wire_read card at out) ∷ kept) n place

-- the whole: the head at 0, and the records from 4 on where that is answered 0
pub data Hosted (card out : List ℕ) : List (List ℕ) → ℕ → ℕ → Type 0 where
  headless : {n : ℕ} → wire_answer card 0 out ≡ n → n ≢ 0 → Hosted card out [] n 0
  headed : {kept : List (List ℕ)} {n place : ℕ} → wire_answer card 0 out ≡ 0 → Readings card 4 (wire_read card 0 out) kept n place
      → Hosted card out kept n place

-- the answer that ends the readings: 1 at the end of the file, which is 0 in its contents
unfoldable pub last_answer : ℕ → ℕ
last_answer zero = 1
last_answer (suc n) = suc n

-- where the readings of a file end: behind the records of its receipts; at 0 where the head is wrong
unfoldable pub last_place : List ℕ → ℕ
last_place file = cond (has_head file) (length (card_of (read_card file).receipts)) 0

-- What the functions of src/ hand out and leave, by the definitions of `Card`.
use Rattle.std.specs.Prelude.{ℕ, zero, suc, ◌+◌, ◌/◌, ◌^◌, ◌<◌, ◌≤◌, Bool, cond, List, [], ◌∷◌, ◌++◌, ◌≡◌, eqb, leb, length, take, drop, get_or, Option, Some, None, unwrap_or, Result, Ok, Err}
use Rattle.words.specs.Words.{over}
use Rattle.card.specs.declared.CardError.{CardError}
use Rattle.card.specs.declared.Plan.{Plan}
use Rattle.card.specs.declared.Record.{Record}
use Rattle.card.specs.Card.{widths, map_of, fields_of, fields_in, entry_in, past_end, unsound, Found, Ends, Accepts, Refuses, Contents, ended, has_head, wrong_head}

-- writing ----------------------------------------------------------------------------------------------------------------

-- from a place of a card on there is room for bytes
unfoldable pub has_room : List ℕ → ℕ → List ℕ → Bool
has_room card at bs = leb (at + length bs) (length card)

-- what a writer leaves: the bytes from the place on and nothing else altered, or the card as it was
unfoldable pub written : List ℕ → ℕ → List ℕ → List ℕ
written card at bs = cond (has_room card at bs) (over card at bs) card

-- what it answers: how many bytes it wrote, and none where it wrote nothing
unfoldable pub counted : List ℕ → ℕ → List ℕ → Option ℕ
counted card at bs = cond (has_room card at bs) (Some (length bs)) None

-- the same as a number, 0 for none
unfoldable pub count : List ℕ → ℕ → List ℕ → ℕ
count card at bs = unwrap_or (counted card at bs) 0

-- the map of 22 numbers and the length of their body, which a byte holds
pub record Plans (ns : List ℕ) (plan : Plan) : Type 0 where
  pub map_is : plan.map ≡ map_of ns
  pub length-is : plan.length ≡ 4 + length (fields_of widths ns)
  pub short : plan.length ≤ 126

-- reading ----------------------------------------------------------------------------------------------------------------

-- the number of a refusal, and back
unfoldable pub error_number : CardError → ℕ
error_number CardError.PastEnd = past_end
error_number CardError.Unsound = unsound

unfoldable pub error_of : ℕ → CardError
error_of n = cond (eqb n past_end) CardError.PastEnd CardError.Unsound

-- what is handed out at a place whose length byte is L: for an accepted record the receipt and the place after it, and nothing at the end
unfoldable pub read_of : ℕ → ℕ → Found → Result (Option Record) CardError
read_of at L Ends = Ok None
read_of at L (Accepts r rest) = Ok (Some (record { receipt = r; next = at + L + 3 }))
read_of at L (Refuses n) = Err (error_of n)

unfoldable pub read_at : List ℕ → ℕ → Result (Option Record) CardError
read_at card at = read_of at (get_or card at 0) (entry_in (drop at card))

-- The reader's loop: at a place, and again at each next one, until a record is not accepted; so many times at most.
unfoldable pub onward_by : Result (Option Record) CardError → (ℕ → Contents) → Contents
onward_by (Ok (Some r)) later = record { receipts = r.receipt ∷ (later r.next).receipts; answer = (later r.next).answer }
onward_by (Ok None) later = ended 0
onward_by (Err e) later = ended (error_number e)

unfoldable pub read_from : ℕ → List ℕ → ℕ → Contents
read_from zero card at = ended 0
read_from (suc n) card at = onward_by (read_at card at) (read_from n card)

-- from the head on, with a reading for every byte: more than there can be
unfoldable pub read_all : List ℕ → Contents
read_all card = cond (has_head card) (read_from (length card) card 4) (ended wrong_head)

-- numbers in front of others, if there are those
unfoldable pub prefixed : List ℕ → Option (List ℕ) → Option (List ℕ)
prefixed ns (Some ms) = Some (ns ++ ms)
prefixed ns None = None

-- zeros from a place on
abbrev pub ZeroFrom : ℕ → List ℕ → Type 0
ZeroFrom i l = (k : ℕ) → i ≤ k → get_or l k 0 ≡ 0

-- where the fields before the ith are read: the others are in the body from a place on, and with them the numbers are what the fields come to
pub record Reached (map : ℕ) (body : List ℕ) (i place : ℕ) (ns : List ℕ) : Type 0 where
  pub within : place ≤ length body
  pub size : length ns ≡ 22
  pub zeros : ZeroFrom i ns
  pub fields : prefixed (take i ns) (fields_in (drop i widths) (map / 2 ^ i) (drop place body)) ≡ fields_in widths map body

-- what a width can hold: a field of no bytes has its bit alone
abbrev pub Within : ℕ → ℕ → Type 0
Within zero n = n < 2
Within (suc w) n = n < 256 ^ suc w

-- one number for each width, within it
abbrev pub Fit : List ℕ → List ℕ → Type 0
Fit [] [] = Unit
Fit [] (n ∷ ns) = ⊥
Fit (w ∷ ws) [] = ⊥
Fit (w ∷ ws) (n ∷ ns) = Within w n × Fit ws ns

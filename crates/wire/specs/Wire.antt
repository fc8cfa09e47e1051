-- Whole lives as bytes (docs/WIRE.md): the records of an input, the answers to them, and what is written.
use Rattle.std.specs.Prelude.{ℕ, zero, suc, ◌*◌, ◌/◌, ◌%◌, min, Bool, cond, ◌&&◌, List, [], ◌∷◌, ◌++◌, ltb, length}
use Rattle.words.specs.Words.{record_at, bytes_of}
use Rattle.format.specs.Decode.{Record, decode}
use Rattle.format.specs.Encode.{padded}
use Rattle.host_records.specs.Records.{opening, Answer, answers_from, answer_words}

-- the first records of an input, each 128 bytes
unfoldable pub records_in : List ℕ → ℕ → List Record
records_in bs zero = []
records_in bs (suc n) = records_in bs n ++ (decode (record_at bs (128 * n)) ∷ [])

-- the bytes of answers, each 208
unfoldable pub answer_bytes : List Answer → List ℕ
answer_bytes [] = []
answer_bytes (a ∷ rest) = bytes_of (answer_words a) ++ answer_bytes rest

-- how many records are run: those that are whole and whose answer has room
abbrev pub runs : ℕ → ℕ → ℕ
runs input output = min (input / 128) (output / 208)

-- "bytes at the end that do not fill a record are answered 65, once, if there is room"
unfoldable pub is_short : ℕ → ℕ → Bool
is_short input output = ltb (input / 128) (output / 208) && ltb 0 (input % 128)

unfoldable pub short_bytes : Bool → List ℕ
short_bytes short = cond short (bytes_of (padded 65 0 [])) []

-- what is written to an output of a length
unfoldable pub written : List ℕ → ℕ → List ℕ
written bs output =
    answer_bytes (answers_from opening (records_in bs (runs (length bs) output))) ++ short_bytes (is_short (length bs) output)

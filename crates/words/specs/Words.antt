-- Words of 8 bytes, little end first, in a list of bytes (docs/WIRE.md); numbers of any width in bytes.
use Rattle.std.specs.Prelude.{ℕ, zero, suc, ◌+◌, ◌*◌, ◌/◌, ◌%◌, ◌<◌, List, [], ◌∷◌, ◌++◌, length, take, drop, get_or}

-- reading ----------------------------------------------------------------------------------------------------------------

abbrev pub byte_at : List ℕ → ℕ → ℕ
byte_at bs i = get_or bs i 0

-- the number that four bytes stand for
unfoldable pub half_at : List ℕ → ℕ → ℕ
half_at bs i = byte_at bs i + 256 * (byte_at bs (i + 1) + 256 * (byte_at bs (i + 2) + 256 * byte_at bs (i + 3)))

-- the word whose first byte stands at a place
unfoldable pub word_at : List ℕ → ℕ → ℕ
word_at bs i = half_at bs i + 4294967296 * half_at bs (i + 4)

-- the words that stand from a place on
unfoldable pub words_at : ℕ → List ℕ → ℕ → List ℕ
words_at zero bs i = []
words_at (suc n) bs i = word_at bs i ∷ words_at n bs (i + 8)

-- the words of the input record whose first byte stands at a place: 16 of them, 128 bytes
abbrev pub record_at : List ℕ → ℕ → List ℕ
record_at bs i = words_at 16 bs i

-- every number of a list is a byte
abbrev pub Bytes : List ℕ → Type 0
Bytes [] = Unit {0}
Bytes (b ∷ bs) = (b < 256) × Bytes bs

-- the number that bytes stand for, little end first
unfoldable pub little_number : List ℕ → ℕ
little_number [] = 0
little_number (b ∷ bs) = b + 256 * little_number bs

-- writing ----------------------------------------------------------------------------------------------------------------

-- the first bytes of a number, little end first
unfoldable pub little_end : ℕ → ℕ → List ℕ
little_end zero w = []
little_end (suc n) w = (w % 256) ∷ little_end n (w / 256)

-- the bytes of words
unfoldable pub bytes_of : List ℕ → List ℕ
bytes_of [] = []
bytes_of (w ∷ ws) = little_end 8 w ++ bytes_of ws

-- a list with another written over it from a place on
unfoldable pub over : List ℕ → ℕ → List ℕ → List ℕ
over out at bs = take at out ++ (bs ++ drop (at + length bs) out)

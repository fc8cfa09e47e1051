-- A receipt and its 192 bytes of words determine each other. Assumes nothing.
use Prim.Native.Nat.{ℕ, zero, suc, ◌+◌, ◌*◌, ◌/◌, ◌%◌, ◌<◌, ◌≤◌}
use mathlib.Core.Bool.{Bool, true, false, ◌&&◌, cond}
use mathlib.Core.List.{List, [], ◌∷◌, ◌++◌}
use Rattle.std.specs.Prelude.{Option, Some, None}
use Rattle.std.proofs.lemmas.Option.{none-some}
use mathlib.Core.Path.{◌≡◌, refl, sym, ap, ◌∙◌}
use native.Mathlib.Nat.{add_assoc, add-zero, le_of_suc-le-suc}
use native.Mathlib.Omega.{arith}
use borrow.Author.Tests.{le-leb, leb-true, eqb-true}
use lib.Dec.{eqb, leb}
use lib.ListN.{length, take, drop, length-drop, take-append-drop}
use lib.Seq.{take_at, drop_at, drop-drop, get_or-drop, length-take-le}
use Rattle.model.proofs.Tests.{and_both}
use Rattle.model.specs.declared.Receipt.{Receipt}
use Rattle.words.specs.Words.{Bytes, byte_at, half_at, word_at, words_at, little_number, little_end, bytes_of}
use Rattle.words.proofs.Ends.{length-little_end}
use Rattle.words.proofs.Numbers.{number-bytes}
use Rattle.card.specs.Card.{widths, nth, numbers_of, receipt_of}
use Rattle.card.specs.Functions.{Fit}
use Rattle.card.specs.Wire.{wire_limits, within, wire_numbers, wire_words_from, wire_words, wire_receipt}
use Rattle.card.specs.Claim.{Fits}
use Rattle.card.proofs.Bytes.{bytes_take, bytes_drop, width-number}
use Rattle.card.proofs.FieldLaws.{fit_length, fit-nth}
use Rattle.card.proofs.Receipts.{◌and◌, numbers_fit, receipt-back, from, from_all, made}
use Rattle.card.proofs.Wire

-- a word of eight bytes --------------------------------------------------------------------------------------------------

no_bytes : (n : ℕ) → 0 ≡ 0 + 256 * little_number (take n [])
unfolding little_number
no_bytes zero = refl
no_bytes (suc n) = refl

-- a byte, and the number of those after it: 0 for each that is missing
byte-first : (k n : ℕ) (bs : List ℕ) → little_number (take (suc n) (drop k bs)) ≡ byte_at bs k + 256 * little_number (take n (drop (suc k) bs))
unfolding little_number
byte-first zero n [] = no_bytes n
byte-first zero n (b ∷ bs) = refl
byte-first (suc k) n [] = no_bytes n
byte-first (suc k) n (b ∷ bs) = byte-first k n bs

word_number : (bs : List ℕ) → word_at bs 0 ≡ little_number (take 8 bs)
unfolding word_at half_at little_number
word_number bs =
    omega (arith, byte-first 0 7 bs, byte-first 1 6 bs, byte-first 2 5 bs, byte-first 3 4 bs, byte-first 4 3 bs, byte-first 5 2 bs, byte-first 6 1 bs, byte-first 7 0 bs)

-- the words from a place on are those at the front of what stands there
word-front : (bs : List ℕ) (i : ℕ) → word_at bs i ≡ word_at (drop i bs) 0
unfolding word_at half_at
word-front bs i = simp (get_or-drop, add_assoc, add-zero)

words-front : (n : ℕ) (bs : List ℕ) (i : ℕ) → words_at n bs i ≡ words_at n (drop i bs) 0
unfolding words_at
words-front zero bs i = refl
words-front (suc n) bs i = rw (word-front bs i, words-front n bs (i + 8), words-front n (drop i bs) 8, drop-drop 8 i bs)

-- bytes of words, and words of bytes -------------------------------------------------------------------------------------

-- each word is at most its limit, and no limit is above what eight bytes hold
abbrev Upto : List ℕ → List ℕ → Type 0
Upto [] ls = Unit
Upto (w ∷ ws) [] = ⊥
Upto (w ∷ ws) (l ∷ ls) = (w ≤ l) × Upto ws ls

unfoldable small : List ℕ → Bool
small [] = true
small (l ∷ ls) = leb l 0xffff_ffff_ffff_ffff && small ls

upto-within : (ws ls : List ℕ) → Upto ws ls → within ws ls ≡ true
unfolding within
upto-within [] ls u = refl
upto-within (w ∷ ws) [] u = absurd u
upto-within (w ∷ ws) (l ∷ ls) u = rw (le-leb w l u.0, upto-within ws ls u.1)

word_back : (w : ℕ) (t : List ℕ) → w < 18446744073709551616 → word_at (little_end 8 w ++ t) 0 ≡ w
word_back w t h = word_number (little_end 8 w ++ t) ∙ rw (take_at (little_end 8 w) t 8 (length-little_end 8 w)) (number-bytes 8 w h)

words_back : (ws ls : List ℕ) → Upto ws ls → small ls ≡ true → words_at (length ws) (bytes_of ws) 0 ≡ ws
unfolding words_at bytes_of small
words_back [] ls u s = refl
words_back (w ∷ ws) [] u s = absurd u
words_back (w ∷ ws) (l ∷ ls) u s =
    let k = and_both (leb l 0xffff_ffff_ffff_ffff) (small ls) s in
    let h : w < 18446744073709551616 = omega (arith, u.0, leb-true l 0xffff_ffff_ffff_ffff k.0) in
    let e = drop_at (little_end 8 w) (bytes_of ws) 8 (length-little_end 8 w) in
    rw (word_back w (bytes_of ws) h, words-front (length ws) (little_end 8 w ++ bytes_of ws) 8, e, words_back ws ls u.1 k.1)

word_bytes : (bs : List ℕ) → Bytes bs → 8 ≤ length bs → little_end 8 (word_at bs 0) ≡ take 8 bs
word_bytes bs b h = rw (word_number bs) (width-number 8 (take 8 bs) (length-take-le 8 bs h) (bytes_take 8 bs b))

bytes_back : (n : ℕ) (bs : List ℕ) → Bytes bs → length bs ≡ 8 * n → bytes_of (words_at n bs 0) ≡ bs
unfolding words_at bytes_of
bytes_back zero [] b l = refl
bytes_back zero (x ∷ bs) b l = absurd (omega arith)
bytes_back (suc n) bs b l =
    let h : length (drop 8 bs) ≡ 8 * n = simp length-drop (omega arith) in
    rw (word_bytes bs b (omega arith), words-front n bs 8, bytes_back n (drop 8 bs) (bytes_drop 8 bs b) h) (take-append-drop 8 bs)

-- numbers and their words ------------------------------------------------------------------------------------------------

-- two halves of a number
halves : (n : ℕ) → n % 4294967296 + 4294967296 * (n / 4294967296) ≡ n
halves n = omega arith

low-upto : (n : ℕ) → n % 4294967296 ≤ 0xffff_ffff
low-upto n = omega arith

high-upto : {n : ℕ} → n < 18446744073709551616 → n / 4294967296 ≤ 0xffff_ffff
high-upto h = omega arith

module _ (ns : List ℕ) (f : Fit widths ns) where
  words-upto : Upto (wire_words_from ns) wire_limits
  unfolding widths wire_words_from wire_limits
  words-upto =
      let h = fit-nth ns f in
      le_of_suc-le-suc (h 0 refl)
      and le_of_suc-le-suc (h 1 refl)
      and le_of_suc-le-suc (h 2 refl)
      and le_of_suc-le-suc (h 3 refl)
      and le_of_suc-le-suc (h 4 refl)
      and le_of_suc-le-suc (h 5 refl)
      and le_of_suc-le-suc (h 6 refl)
      and le_of_suc-le-suc (h 7 refl)
      and le_of_suc-le-suc (h 8 refl)
      and le_of_suc-le-suc (h 9 refl)
      and le_of_suc-le-suc (h 10 refl)
      and le_of_suc-le-suc (h 11 refl)
      and le_of_suc-le-suc (h 12 refl)
      and le_of_suc-le-suc (h 13 refl)
      and le_of_suc-le-suc (h 14 refl)
      and low-upto (nth ns 15)
      and high-upto (h 15 refl)
      and low-upto (nth ns 16)
      and high-upto (h 16 refl)
      and le_of_suc-le-suc (h 17 refl)
      and le_of_suc-le-suc (h 18 refl)
      and le_of_suc-le-suc (h 19 refl)
      and le_of_suc-le-suc (h 20 refl)
      and le_of_suc-le-suc (h 21 refl)
      and tt

  numbers-back : wire_numbers (wire_words_from ns) ≡ ns
  unfolding wire_numbers wire_words_from from widths
  numbers-back = rw (halves (nth ns 15), halves (nth ns 16)) (sym (from_all 22 0 ns (fit_length widths ns f)))

  words-again : words_at 24 (bytes_of (wire_words_from ns)) 0 ≡ wire_words_from ns
  unfolding small wire_limits wire_words_from
  words-again = words_back (wire_words_from ns) wire_limits words-upto refl

-- of words within their limits
half-low : (x y : ℕ) → x < 4294967296 → (x + 4294967296 * y) % 4294967296 ≡ x
half-low x y h = omega arith

half_high : (x y : ℕ) → x < 4294967296 → (x + 4294967296 * y) / 4294967296 ≡ y
half_high x y h = omega arith

words-from : (ws : List ℕ) → length ws ≡ 24 → within ws wire_limits ≡ true → wire_words_from (wire_numbers ws) ≡ ws
unfolding wire_numbers wire_words_from wire_limits from
words-from ws l e =
    let a = Wire.below ws e 15 tt in
    let b = Wire.below ws e 17 tt in
    rw (half-low (nth ws 15) (nth ws 16) a, half_high (nth ws 15) (nth ws 16) a, half-low (nth ws 17) (nth ws 18) b, half_high (nth ws 17) (nth ws 18) b)
    (sym (from_all 24 0 ws l))

-- receipts and their bytes -----------------------------------------------------------------------------------------------

pub words-read : (r : Receipt) → Fits r → wire_receipt (bytes_of (wire_words r)) ≡ Some r
unfolding wire_words
words-read r f =
    let ns = numbers_of r in
    let fit = numbers_fit r f in
    let bs = bytes_of (wire_words_from ns) in
    let w = words-again ns fit in
    let u = rw (← w) at (upto-within (wire_words_from ns) wire_limits (words-upto ns fit)) in
    sym (Wire.inside bs (Wire.words_size r) u) ∙ rw (w, numbers-back ns fit) (receipt-back r f)

-- what a receipt that was read says of the bytes
asked : (t u : Bool) (o : Option Receipt) (r : Receipt) → cond (t && u) o None ≡ Some r → (t ≡ true) × (u ≡ true) × (o ≡ Some r)
asked true true o r e = (refl, refl, e)
asked true false o r e = absurd (none-some r e)
asked false u o r e = absurd (none-some r e)

length-words : (n : ℕ) (bs : List ℕ) (i : ℕ) → length (words_at n bs i) ≡ n
unfolding words_at
length-words zero bs i = refl
length-words (suc n) bs i = ap suc (length-words n bs (i + 8))

pub read-words : (bs : List ℕ) (r : Receipt) → Bytes bs → wire_receipt bs ≡ Some r → Fits r × (bytes_of (wire_words r) ≡ bs)
unfolding wire_receipt wire_words
read-words bs r b e =
    let ws = words_at 24 bs 0 in
    let (l, u, o) = asked (eqb (length bs) 192) (within ws wire_limits) (receipt_of (wire_numbers ws)) r e in
    let m = made (wire_numbers ws) r (Wire.numbers_fit ws u) o in
    (m.fits, rw (m.numbers, words-from ws (length-words 24 bs 0) u) (bytes_back 24 bs b (eqb-true (length bs) 192 l)))

-- Lists of bytes. Assumes nothing.
use Prim.Native.Nat.{ℕ, zero, suc, ◌*◌, ◌/◌, ◌^◌, ◌<◌, ◌≤◌}
use mathlib.Core.List.{List, [], ◌∷◌, ◌++◌}
use mathlib.Core.Path.{◌≡◌}
use native.Mathlib.Omega.{arith}
use lib.ListN.{length, take, drop, get_or}
use Rattle.words.specs.Words.{Bytes, little_end, little_number}
use Rattle.words.proofs.Numbers.{bytes-number, number-below}
use Rattle.card.specs.Card.{sum}

pub bytes_take : (n : ℕ) (bs : List ℕ) → Bytes bs → Bytes (take n bs)
bytes_take zero bs b = tt
bytes_take (suc n) [] b = tt
bytes_take (suc n) (x ∷ xs) b = (b.0, bytes_take n xs b.1)

pub bytes_drop : (n : ℕ) (bs : List ℕ) → Bytes bs → Bytes (drop n bs)
bytes_drop zero bs b = b
bytes_drop (suc n) [] b = tt
bytes_drop (suc n) (x ∷ xs) b = bytes_drop n xs b.1

pub bytes-from : (bs : List ℕ) → ((k : ℕ) → get_or bs k 0 < 256) → Bytes bs
bytes-from [] h = tt
bytes-from (b ∷ bs) h = (h 0, bytes-from bs (λ k. h (suc k)))

pub bytes-append : (xs ys : List ℕ) → Bytes xs → Bytes ys → Bytes (xs ++ ys)
bytes-append [] ys a b = b
bytes-append (x ∷ xs) ys a b = (a.0, bytes-append xs ys a.1 b)

pub bytes_after : (xs ys : List ℕ) → Bytes (xs ++ ys) → Bytes ys
bytes_after [] ys b = b
bytes_after (x ∷ xs) ys b = bytes_after xs ys b.1

pub bytes-little_end : (w n : ℕ) → Bytes (little_end w n)
unfolding little_end
bytes-little_end zero n = tt
bytes-little_end (suc w) n = (omega arith, bytes-little_end w (n / 256))

pub sum_below : (bs : List ℕ) → Bytes bs → sum bs ≤ 255 * length bs
unfolding sum
sum_below [] b = omega arith
sum_below (x ∷ xs) b = omega (arith, sum_below xs b.1)

-- bytes and their number, by the width
pub width-number : (w : ℕ) (bs : List ℕ) → length bs ≡ w → Bytes bs → little_end w (little_number bs) ≡ bs
width-number w bs l b = rw l at (bytes-number bs b)

pub width-below : (w : ℕ) (bs : List ℕ) → length bs ≡ w → Bytes bs → little_number bs < 256 ^ w
width-below w bs l b = rw l at (number-below bs b)

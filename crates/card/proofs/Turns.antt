-- One field of the 22 numbers of a receipt: what it adds to the map and to the body. Assumes nothing.
use Prim.Native.Nat.{ℕ, zero, suc, ◌+◌, ◌*◌, ◌%◌, ◌^◌, ◌<◌, ◌≤◌}
use mathlib.Core.Bool.{true, false, cond}
use mathlib.Core.List.{List, [], ◌∷◌, ◌++◌}
use mathlib.Core.Path.{◌≡◌, refl, sym, ap, ◌∙◌}
use native.Mathlib.Nat.{lt_of_lt_of_le, mod-eq_of_lt, mul-add, mul_assoc, mul_left_comm, mul-one, pow-succ'}
use native.Mathlib.Numerals.{add-one}
use native.Mathlib.Omega.{arith}
use lib.ListN.{length, drop, get_or, length-append, length-drop, drop_of_length-le}
use lib.Pow.{pow-lt, pow_mono}
use Rattle.words.specs.Words.{little_end, over}
use Rattle.words.proofs.Ends.{length-little_end}
use Rattle.words.proofs.Over.{over-over}
use Rattle.card.specs.Card.{widths, bit, stands, map_of, fields_of, sum}
use Rattle.card.proofs.FieldLaws.{map_below, fields-length}
use Rattle.card.proofs.Steps.{rest_at}

pub stands-not : (n : ℕ) → n ≡ 0 → stands n ≡ false
unfolding stands
stands-not n e = rw e

pub stands-so : (n : ℕ) → (n ≡ 0 → ⊥) → stands n ≡ true
unfolding stands
stands-so zero h = absurd (h refl)
stands-so (suc n) h = refl

-- the jth field, with what comes after it, from the ith on
module _ (ns : List ℕ) (m : length ns ≡ 22) (j i : ℕ) (e : j + 1 ≡ i) (l : i ≤ 22) where
  rest_of : (xs : List ℕ) → length xs ≡ 22 → drop j xs ≡ get_or xs j 0 ∷ drop i xs
  rest_of xs k = rest_at xs j (omega arith) ∙ ap (λ (n : ℕ). get_or xs j 0 ∷ drop n xs) e

  map_at : map_of (drop j ns) ≡ bit (stands (get_or ns j 0)) + 2 * map_of (drop i ns)
  unfolding map_of
  map_at = rw (rest_of ns m)

  fields_at : fields_of (drop j widths) (drop j ns) ≡ cond (stands (get_or ns j 0)) (little_end (get_or widths j 0) (get_or ns j 0)) [] ++ fields_of (drop i widths) (drop i ns)
  unfolding fields_of widths
  fields_at = rw (rest_of widths refl, rest_of ns m)

  pub map-off : get_or ns j 0 ≡ 0 → map_of (drop j ns) ≡ 2 * map_of (drop i ns)
  unfolding bit
  map-off h = omega (arith, rw (stands-not (get_or ns j 0) h) at map_at)

  pub map_on : (get_or ns j 0 ≡ 0 → ⊥) → map_of (drop j ns) ≡ 2 * map_of (drop i ns) + 1
  unfolding bit
  map_on h = omega (arith, rw (stands-so (get_or ns j 0) h) at map_at)

  -- the map of the fields passed, with that of those to come
  twice : 2 ^ i ≡ 2 * 2 ^ j
  twice = ap (λ (n : ℕ). 2 ^ n) (sym e ∙ add-one j) ∙ pow-succ' 2 j

  pub passed-off : (map : ℕ) → map + 2 ^ j * map_of (drop j ns) ≡ map_of ns → get_or ns j 0 ≡ 0 → map + 2 ^ i * map_of (drop i ns) ≡ map_of ns
  passed-off map h z = rw (twice, mul_assoc 2 (2 ^ j) (map_of (drop i ns))) (omega (arith, rw (map-off z, mul_left_comm (2 ^ j) 2 (map_of (drop i ns))) at h))

  pub passed-on : (map : ℕ) → map + 2 ^ j * map_of (drop j ns) ≡ map_of ns → (get_or ns j 0 ≡ 0 → ⊥) → map + 2 ^ j + 2 ^ i * map_of (drop i ns) ≡ map_of ns
  passed-on map h z =
      let p : 2 ^ j * (2 * map_of (drop i ns) + 1) ≡ 2 * (2 ^ j * map_of (drop i ns)) + 2 ^ j =
      mul-add (2 ^ j) (2 * map_of (drop i ns)) 1 ∙ rw (mul_left_comm (2 ^ j) 2 (map_of (drop i ns)), mul-one (2 ^ j)) in
      rw (twice, mul_assoc 2 (2 ^ j) (map_of (drop i ns))) (omega (arith, p, rw (map_on z) at h))

  pub fields-off : get_or ns j 0 ≡ 0 → fields_of (drop j widths) (drop j ns) ≡ fields_of (drop i widths) (drop i ns)
  fields-off h = rw (stands-not (get_or ns j 0) h) at fields_at

  pub fields-on : (get_or ns j 0 ≡ 0 → ⊥) → fields_of (drop j widths) (drop j ns) ≡ little_end (get_or widths j 0) (get_or ns j 0) ++ fields_of (drop i widths) (drop i ns)
  fields-on h = rw (stands-so (get_or ns j 0) h) at fields_at

  pub size-off : get_or ns j 0 ≡ 0 → length (fields_of (drop j widths) (drop j ns)) ≡ length (fields_of (drop i widths) (drop i ns))
  size-off h = ap length (fields-off h)

  pub size-on : (get_or ns j 0 ≡ 0 → ⊥) → length (fields_of (drop j widths) (drop j ns)) ≡ get_or widths j 0 + length (fields_of (drop i widths) (drop i ns))
  size-on h = ap length (fields-on h) ∙ simp (length-append, length-little_end)

  -- the field written, and the rest after it
  pub field-placed : (card : List ℕ) (place w : ℕ) → w ≡ get_or widths j 0 → (get_or ns j 0 ≡ 0 → ⊥)
      → place + length (fields_of (drop j widths) (drop j ns)) ≤ length card
      → over (over card place (little_end w (get_or ns j 0))) (place + w) (fields_of (drop i widths) (drop i ns))
      ≡ over card place (fields_of (drop j widths) (drop j ns))
  field-placed card place w q h k =
      over-over card place _ _ w (length-little_end w (get_or ns j 0)) (omega (arith, size-on h)) ∙ rw (q, fields-on h)

-- a bit of the map
pub bit-below : (i : ℕ) → i < 22 → 2 ^ i < 4194304
bit-below i h = pow-lt {i = i} {j = 22} h

pub shifted : (i : ℕ) → i < 22 → (1 * 2 ^ i) % 18446744073709551616 ≡ 2 ^ i
shifted i h =
    let e : 1 * 2 ^ i ≡ 2 ^ i = omega arith in
    rw e (mod-eq_of_lt (omega (arith, bit-below i h)))

-- bounds -----------------------------------------------------------------------------------------------------------------

pub map-small : (ns : List ℕ) (i : ℕ) → length ns ≡ 22 → map_of (drop i ns) < 4194304
map-small ns i m = lt_of_lt_of_le (map_below (drop i ns)) (pow_mono {i = length (drop i ns)} {j = 22} (simp length-drop (omega arith)))

sum-rest : (i : ℕ) (ws : List ℕ) → sum (drop i ws) ≤ sum ws
unfolding sum
sum-rest zero ws = omega arith
sum-rest (suc i) [] = omega arith
sum-rest (suc i) (w ∷ ws) = omega (arith, sum-rest i ws)

pub size_small : (ns : List ℕ) (i : ℕ) → length (fields_of (drop i widths) (drop i ns)) ≤ 122
unfolding widths sum
size_small ns i = omega (arith, fields-length (drop i widths) (drop i ns), sum-rest i widths)

-- past the last field
pub map-end : (ns : List ℕ) → length ns ≡ 22 → map_of (drop 22 ns) ≡ 0
unfolding map_of
map-end ns m = rw (drop_of_length-le ns {i = 22} (omega arith))

pub fields-end : (ns : List ℕ) → fields_of (drop 22 widths) (drop 22 ns) ≡ []
unfolding fields_of widths
fields-end ns = refl

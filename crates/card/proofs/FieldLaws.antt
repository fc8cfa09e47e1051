-- The fields of a record, written and read: two inductions over any widths and numbers. Assumes nothing.
use Prim.Native.Nat.{ℕ, zero, suc, ◌+◌, ◌*◌, ◌/◌, ◌%◌, ◌^◌, ◌<◌, ◌≤◌}
use mathlib.Core.Bool.{Bool, true, false, ◌&&◌, cond}
use mathlib.Core.List.{List, [], ◌∷◌, ◌++◌}
use Rattle.std.specs.Prelude.{Option, Some, None}
use Rattle.std.proofs.lemmas.Option.{none-some, same_Some}
use mathlib.Core.Path.{◌≡◌, refl, sym, subst}
use native.Mathlib.Nat.{one-le-pow, pow-succ'}
use native.Mathlib.Omega.{arith}
use borrow.Author.Tests.{le-leb, leb-true, eqb-true, eqb-false, ltb-true}
use lib.Dec.{eqb, leb, ltb}
use lib.ListN.{length, take, drop, get_or, length-append, take-append-drop}
use lib.Seq.{take_at, drop_at, length-take-le}
use Rattle.model.proofs.Tests.{and_both}
use Rattle.words.specs.Words.{Bytes, little_end, little_number}
use Rattle.words.proofs.Numbers.{number-bytes}
use Rattle.words.proofs.Ends.{length-little_end}
use Rattle.card.specs.Card.{widths, nth, bit, stands, map_of, fields_of, sum, field_in, joined, odd, fields_in}
use Rattle.card.specs.Functions.{Within, Fit}
use Rattle.card.proofs.Bytes.{bytes_take, bytes_drop, bytes-append, bytes-little_end, width-number, width-below}

pub fit_length : (ws ns : List ℕ) → Fit ws ns → length ns ≡ length ws
fit_length [] [] f = refl
fit_length [] (n ∷ ns) f = absurd f
fit_length (w ∷ ws) [] f = absurd f
fit_length (w ∷ ws) (n ∷ ns) f = omega (arith, fit_length ws ns f.1)

pub fit_at : (ws ns : List ℕ) → Fit ws ns → (i : ℕ) → i < length ws → Within (get_or ws i 0) (get_or ns i 0)
fit_at [] ns f i h = absurd (omega arith)
fit_at (w ∷ ws) [] f i h = absurd f
fit_at (w ∷ ws) (n ∷ ns) f zero h = f.0
fit_at (w ∷ ws) (n ∷ ns) f (suc i) h = fit_at ws ns f.1 i (omega arith)

-- the ith of the 22 fields
pub fit-nth : (ns : List ℕ) → Fit widths ns → (i : ℕ) → ltb i 22 ≡ true → Within (get_or widths i 0) (nth ns i)
unfolding widths
fit-nth ns f i h = fit_at widths ns f i (ltb-true i 22 h)

-- sizes ------------------------------------------------------------------------------------------------------------------

pub map_below : (ns : List ℕ) → map_of ns < 2 ^ length ns
unfolding map_of stands bit
map_below [] = omega arith
map_below (zero ∷ ns) = omega (arith, map_below ns, pow-succ' 2 (length ns))
map_below (suc n ∷ ns) = omega (arith, map_below ns, pow-succ' 2 (length ns))

pub fields-length : (ws ns : List ℕ) → length (fields_of ws ns) ≤ sum ws
unfolding fields_of stands sum
fields-length [] ns = omega arith
fields-length (w ∷ ws) [] = omega arith
fields-length (w ∷ ws) (zero ∷ ns) = omega (arith, fields-length ws ns)
fields-length (w ∷ ws) (suc n ∷ ns) =
    omega (arith, fields-length ws ns, length-append (little_end w (suc n)) (fields_of ws ns), length-little_end w (suc n))

pub fields-bytes : (ws ns : List ℕ) → Bytes (fields_of ws ns)
unfolding fields_of stands
fields-bytes [] ns = tt
fields-bytes (w ∷ ws) [] = tt
fields-bytes (w ∷ ws) (zero ∷ ns) = fields-bytes ws ns
fields-bytes (w ∷ ws) (suc n ∷ ns) = bytes-append (little_end w (suc n)) (fields_of ws ns) (bytes-little_end w (suc n)) (fields-bytes ws ns)

-- written, then read -----------------------------------------------------------------------------------------------------

-- the lowest bit of a map, and the others
odd-clear : (m : ℕ) → eqb ((0 + 2 * m) % 2) 1 ≡ false
odd-clear m = let e : (0 + 2 * m) % 2 ≡ 0 = omega arith in rw e

odd_set : (m : ℕ) → eqb ((1 + 2 * m) % 2) 1 ≡ true
odd_set m = let e : (1 + 2 * m) % 2 ≡ 1 = omega arith in rw e

half-clear : (m : ℕ) → (0 + 2 * m) / 2 ≡ m
half-clear m = omega arith

half-set : (m : ℕ) → (1 + 2 * m) / 2 ≡ m
half-set m = omega arith

-- a field whose bit stands, at the front of the bytes
wide-there : (w n : ℕ) (t : List ℕ) → suc n < 256 ^ suc w → field_in true (suc w) (little_end (suc w) (suc n) ++ t) ≡ Some (suc n)
unfolding field_in stands
wide-there w n t h =
    let bs = little_end (suc w) (suc n) in
    let e : take (suc w) (bs ++ t) ≡ bs = take_at bs t (suc w) (length-little_end (suc w) (suc n)) in
    let l : suc w ≤ length (bs ++ t) = omega (arith, length-append bs t, length-little_end (suc w) (suc n)) in
    rw (e, number-bytes (suc w) (suc n) h, le-leb (suc w) (length (bs ++ t)) l)

field-there : (w n : ℕ) (t : List ℕ) → Within w (suc n) → field_in true w (little_end w (suc n) ++ t) ≡ Some (suc n)
unfolding field_in
field-there zero n t h = let e : n ≡ 0 = omega arith in rw e
field-there (suc w) n t h = wide-there w n t h

pub fields_read : (ws ns : List ℕ) → Fit ws ns → fields_in ws (map_of ns) (fields_of ws ns) ≡ Some ns
unfolding fields_in map_of fields_of stands bit joined field_in
fields_read [] [] f = refl
fields_read [] (n ∷ ns) f = absurd f
fields_read (w ∷ ws) [] f = absurd f
fields_read (w ∷ ws) (zero ∷ ns) f = rw (odd-clear (map_of ns), half-clear (map_of ns), fields_read ws ns f.1)
fields_read (w ∷ ws) (suc n ∷ ns) f =
    let bs = little_end w (suc n) in
    let after = drop_at bs (fields_of ws ns) w (length-little_end w (suc n)) in
    rw (odd_set (map_of ns), half-set (map_of ns), field-there w n (fields_of ws ns) f.0, after, fields_read ws ns f.1)

-- read, then written -----------------------------------------------------------------------------------------------------

parity : (m : ℕ) (t : Bool) → odd m ≡ t → bit t + 2 * (m / 2) ≡ m
unfolding bit
parity m true e = omega (arith, eqb-true (m % 2) 1 e)
parity m false e = omega (arith, eqb-false (m % 2) 1 e)

-- what a field that was read says: its bit, its bytes and its range
record Told (stood : Bool) (w : ℕ) (bs : List ℕ) (n : ℕ) : Type 0 where
  bit-of : stands n ≡ stood
  bytes : cond (stands n) (little_end w n) [] ≡ take (cond stood w 0) bs
  within : Within w n

picked : (t : Bool) (x n : ℕ) → cond t (Some x) None ≡ Some n → (t ≡ true) × (x ≡ n)
picked true x n e = (refl, same_Some x n e)
picked false x n e = absurd (none-some n e)

wide-told : (w : ℕ) (bs : List ℕ) (n : ℕ) → Bytes bs → field_in true (suc w) bs ≡ Some n → Told true (suc w) bs n
unfolding field_in
wide-told w bs n b e =
    let ts = take (suc w) bs in
    let p = picked (leb (suc w) (length bs) && stands (little_number ts)) (little_number ts) n e in
    let q = and_both (leb (suc w) (length bs)) (stands (little_number ts)) p.0 in
    let l : length ts ≡ suc w = length-take-le (suc w) bs (leb-true (suc w) (length bs) q.0) in
    let bt : Bytes ts = bytes_take (suc w) bs b in
    let s : stands n ≡ true = rw p.1 at q.1 in
    record {
      bit-of = s;
      bytes = rw (s, ← p.1) (width-number (suc w) ts l bt);
      within = rw p.1 at (width-below (suc w) ts l bt);
    }

within-zero : (w : ℕ) → Within w 0
within-zero zero = omega arith
within-zero (suc w) = one-le-pow (suc w) 256 (omega arith)

told : (t : Bool) (w : ℕ) (bs : List ℕ) (n : ℕ) → Bytes bs → field_in t w bs ≡ Some n → Told t w bs n
unfolding field_in stands little_end
told false w bs n b e = rw (sym (same_Some 0 n e)) (record { bit-of = refl; bytes = refl; within = within-zero w })
told true zero bs n b e = rw (sym (same_Some 1 n e)) (record { bit-of = refl; bytes = refl; within = omega arith })
told true (suc w) bs n b e = wide-told w bs n b e

-- what the fields that were read say: the map, the bytes and the ranges
pub record Written (ws : List ℕ) (m : ℕ) (bs ns : List ℕ) : Type 0 where
  pub map : map_of ns ≡ m
  pub fields : fields_of ws ns ≡ bs
  pub fit : Fit ws ns

more : (w : ℕ) (ws : List ℕ) (m : ℕ) (bs : List ℕ) (n : ℕ) (ns : List ℕ) → Told (odd m) w bs n
    → Written ws (m / 2) (drop (cond (odd m) w 0) bs) ns → Written (w ∷ ws) m bs (n ∷ ns)
unfolding map_of fields_of
more w ws m bs n ns t r =
    record {
      map = rw (t.bit-of, r.map) (parity m (odd m) refl);
      fields = rw (t.bytes, r.fields) (take-append-drop (cond (odd m) w 0) bs);
      fit = (t.within, r.fit);
    }

-- of numbers that are joined, the first and the others
record Joined (x : Option ℕ) (xs : Option (List ℕ)) (ns : List ℕ) : Type 0 where
  first : ℕ
  others : List ℕ
  x-is : x ≡ Some first
  xs-is : xs ≡ Some others
  ns-is : first ∷ others ≡ ns

apart : (x : Option ℕ) (xs : Option (List ℕ)) (ns : List ℕ) → joined x xs ≡ Some ns → Joined x xs ns
unfolding joined
apart (Some n) (Some l) ns e = record { first = n; others = l; x-is = refl; xs-is = refl; ns-is = same_Some (n ∷ l) ns e }
apart (Some n) None ns e = absurd (none-some ns e)
apart None xs ns e = absurd (none-some ns e)

pub fields-written : (ws : List ℕ) (m : ℕ) (bs ns : List ℕ) → Bytes bs → fields_in ws m bs ≡ Some ns → Written ws m bs ns
unfolding fields_in map_of fields_of
fields-written [] zero [] ns b e = rw (sym (same_Some [] ns e)) (record { map = refl; fields = refl; fit = tt })
fields-written [] zero (x ∷ xs) ns b e = absurd (none-some ns e)
fields-written [] (suc m) bs ns b e = absurd (none-some ns e)
fields-written (w ∷ ws) m bs ns b e =
    let after = drop (cond (odd m) w 0) bs in
    let j = apart (field_in (odd m) w bs) (fields_in ws (m / 2) after) ns e in
    let first = told (odd m) w bs j.first b j.x-is in
    let later = fields-written ws (m / 2) after j.others (bytes_drop (cond (odd m) w 0) bs b) j.xs-is in
    subst (λ (l : List ℕ). Written (w ∷ ws) m bs l) j.ns-is (more w ws m bs j.first j.others first later)

-- What is listed for the next start, read and stored. Assumes nothing.
use Prim.Native.Nat.{ℕ, ◌+◌, ◌*◌, ◌<◌, ◌≤◌}
use mathlib.Core.List.{List, [], ◌∷◌}
use mathlib.Core.Logic.{inl}
use mathlib.Core.Path.{◌≡◌, refl, sym, ap, ◌∙◌, subst}
use native.Mathlib.Omega.{arith}
use lib.ListN.{length, get_or, set}
use Rattle.model.specs.declared.Capability.{Capability}
use Rattle.model.specs.Records.{no_capability}
use Rattle.cells.specs.Cells.{part, put}
use Rattle.cells.proofs.Regions.{length-put, put-out, word-here, get_d-table, table-put, part-beside, word-beside, table_beside}
use Rattle.decide_start.specs.declared.Listed.{Listed}
use Rattle.format.specs.Decode.{capability_of}
use Rattle.format.specs.Encode.{capability_words}
use Rattle.rows.specs.Codes.{below}
use Rattle.rows.specs.Rows.{capability_row, Rowed}
use Rattle.rows.proofs.Codes.{below-back}
use Rattle.layout.specs.Layout.{Long, runtime_in, listing_in, Lists}
use Rattle.layout.proofs.Fields as Fields

pub listed-read : (w ws : List ℕ) (i : ℕ) (r : Capability) → i < 17 → ws ≡ part w (2221 + i * 14) 16 → r ≡ capability_of ws
    → r ≡ get_or (listing_in w).records i no_capability
unfolding listing_in
listed-read w ws i r h e f =
    f ∙ ap capability_of e ∙ Fields.capability-window w (2221 + i * 14) ∙ sym (get_d-table capability_of w 2221 14 17 i no_capability h)

-- the runtime stands before what is listed
runtime-kept : (w xs : List ℕ) (b : ℕ) → 2220 ≤ b → b + length xs ≤ 2459 → runtime_in (put w b xs) ≡ runtime_in w
unfolding runtime_in
runtime-kept w xs b h k =
    let low : 2220 ≤ b = h in
    let high : b + length xs ≤ 2220 + 239 = omega (arith, k) in
    simp (part-beside w b xs 2220 239 low high, word-beside w b xs 2220 239 low high, table_beside w b xs 2220 239 low high)

lists-by : (w w' xs : List ℕ) (b : ℕ) (l : Listed) → 2220 ≤ b → b + length xs ≤ 2459 → w' ≡ put w b xs → listing_in (put w b xs) ≡ l → Lists w w' l
lists-by w w' xs b l h k e s =
    subst (λ (v : List ℕ). Lists w v l) (sym e)
    (record {
      first = put-out w b xs 0 (inl (omega (arith, h)));
      long = length-put w b xs;
      runtime = runtime-kept w xs b h k;
      listed = s;
    })

stored-listed : (w xs : List ℕ) (i : ℕ) → Long w → i < 17 → length xs ≡ 14
    → listing_in (put w (2221 + i * 14) xs) ≡ record { records = set (listing_in w).records i (capability_of xs); count = (listing_in w).count }
unfolding listing_in
stored-listed w xs i long h e =
    let low : 2221 ≤ 2221 + i * 14 = omega arith in
    let high : 2221 + i * 14 + length xs ≤ 2221 + 238 = omega (arith, e, h) in
    simp (table-put capability_of w 2221 14 17 i xs e (omega (arith, long)), word-beside w (2221 + i * 14) xs 2221 238 low high)

pub put-lists : (w w' ws : List ℕ) (i : ℕ) (x : Capability) → Long w → i < 17 → w' ≡ put w (2221 + i * 14) ws → Rowed capability_of (capability_row 0 x) x ws
    → Lists w w' (record { records = set (listing_in w).records i x; count = (listing_in w).count })
unfolding capability_words
put-lists w w' ws i x long h e r =
    let n : length ws ≡ 14 = ap length r.row in
    lists-by w w' ws (2221 + i * 14) _ (omega arith) (omega (arith, n, h)) e
    (stored-listed w ws i long h n
    ∙ ap (λ (c : Capability). record { records = set (listing_in w).records i c; count = (listing_in w).count }) (ap capability_of r.row ∙ r.back))

stored-count : (w : List ℕ) (x : ℕ) → Long w → x < 18 → listing_in (put w 2220 (x ∷ [])) ≡ record { records = (listing_in w).records; count = x }
unfolding listing_in
stored-count w x long h =
    let low : 2220 ≤ 2220 = omega arith in
    let high : 2220 + 1 ≤ 2220 + 1 = omega arith in
    simp (word-here w 2220 x (omega (arith, long)), table_beside w 2220 (x ∷ []) 2220 1 low high, below-back 18 x h)

pub count-lists : (w : List ℕ) (x : ℕ) → Long w → x < 18 → Lists w (set w 2220 x) (record { records = (listing_in w).records; count = x })
unfolding put
count-lists w x long h = lists-by w (set w 2220 x) (x ∷ []) 2220 _ (omega arith) (omega arith) refl (stored-count w x long h)

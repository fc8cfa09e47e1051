-- What is listed for a start: one more or none of it, what a cleared word leaves of it, and its records as the runtime's. Assumes nothing.
use Prim.Native.Nat.{ℕ, ◌+◌, ◌*◌, ◌<◌, ◌≤◌}
use mathlib.Core.Bool.{Bool}
use mathlib.Core.List.{List, [], ◌∷◌, ◌++◌}
use mathlib.Core.Path.{◌≡◌, refl, sym, ap, ◌∙◌, subst}
use native.Mathlib.Omega.{arith}
use borrow.Author.Count.{below_more}
use lib.ListN.{length, get_or, set, take, length-set}
use lib.Seq.{get_or-set_same, get_or-set_other, ext_get_or}
use Rattle.model.specs.declared.Capability.{Capability}
use Rattle.model.specs.Records.{no_capability}
use Rattle.model.specs.Soundness.{id_taken}
use Rattle.cells.specs.Cells.{part, table}
use Rattle.cells.proofs.Regions.{tab-ext, length-table}
use Rattle.format.specs.Decode.{capability_of}
use Rattle.rows.specs.Codes.{below}
use Rattle.decide_start.specs.declared.Listed.{Listed}
use Rattle.decide_start.specs.Starts.{Listing}
use Rattle.decide_start.proofs.Listings.{listing-more, listing_full}
use Rattle.runtime.specs.declared.Runtime.{Runtime}
use Rattle.layout.specs.Fields.{with_capabilities}
use Rattle.layout.specs.Layout.{Long, runtime_in, listing_in, Same, Becomes, Lists}
use Rattle.host_start.specs.Starts.{ListsOne, Unlists, Clears, Copies}

pub listing-room : (w : List ℕ) → length (listing_in w).records ≡ 17
unfolding listing_in
listing-room w = length-table capability_of w 2221 14 17

pub in-listing : (w : List ℕ) (i : ℕ) → i < 17 → i < length (listing_in w).records
in-listing w i h = omega (arith, listing-room w, h)

-- one more, and none -----------------------------------------------------------------------------------------------------

pub lists-one : (w w₁ w₂ : List ℕ) (n : ℕ) (c : Capability) → n ≡ (listing_in w).count → n < 17
    → Lists w w₁ (record { records = set (listing_in w).records n c; count = (listing_in w).count })
    → Lists w₁ w₂ (record { records = (listing_in w₁).records; count = n + 1 }) → ListsOne c w w₂
lists-one w w₁ w₂ n c e h a b =
    let is : listing_in w₂ ≡ record { records = set (listing_in w).records (listing_in w).count c; count = (listing_in w).count + 1 } =
    b.listed
    ∙ ap (λ (s : Listed). record { records = s.records; count = n + 1 }) a.listed
    ∙ ap (λ (m : ℕ). record { records = set (listing_in w).records m c; count = m + 1 }) e in
    record {
      first = b.first ∙ a.first;
      long = b.long ∙ a.long;
      runtime = b.runtime ∙ a.runtime;
      listed = λ l k. subst (λ (s : Listed). Listing s (l ++ (c ∷ []))) (sym is) (listing-more (listing_in w) l k c (omega (arith, e, h)));
    }

pub lists-full : (w : List ℕ) (n : ℕ) (c : Capability) → n ≡ (listing_in w).count → 17 ≤ n → n < 18 → ListsOne c w w
lists-full w n c e h k =
    let full : (listing_in w).count ≡ 17 = omega (arith, e, h, k) in
    let is : listing_in w ≡ record { records = (listing_in w).records; count = 17 } = ap (λ (m : ℕ). record { records = (listing_in w).records; count = m }) full in
    record {
      first = refl;
      long = refl;
      runtime = refl;
      listed = λ l g. subst (λ (s : Listed). Listing s (l ++ (c ∷ []))) (sym is) (listing_full (listing_in w) l g c (omega (arith, full)));
    }

pub unlists : (w w' : List ℕ) → Lists w w' (record { records = (listing_in w).records; count = 0 }) → Unlists w w'
unlists w w' a =
    record {
      first = a.first;
      long = a.long;
      runtime = a.runtime;
      listed = subst (λ (s : Listed). Listing s []) (sym a.listed) (record { room = listing-room w; counted = refl; same = refl });
    }

-- cleared words ----------------------------------------------------------------------------------------------------------

-- what is listed depends on no word before its own
listing-same : (w w' : List ℕ) → ((j : ℕ) → 2220 ≤ j → get_or w' j 0 ≡ get_or w j 0) → listing_in w' ≡ listing_in w
unfolding listing_in table part
listing-same w w' e =
    ap (λ (t : List Capability). record { records = t; count = below 18 (get_or w' 2220 0) })
    (tab-ext _ _ 17 (λ i h. ap capability_of (tab-ext _ _ 14 (λ j k. e (2221 + i * 14 + j) (omega arith)))))
    ∙ ap (λ (x : ℕ). record { records = table capability_of w 2221 14 17; count = below 18 x }) (e 2220 (omega arith))

-- words 1 to i - 1 are cleared
pub record Cleared (w w' : List ℕ) (i : ℕ) : Type 0 where
  pub some : 1 ≤ i
  pub few : i ≤ 2220
  pub first : get_or w' 0 0 ≡ get_or w 0 0
  pub long : length w' ≡ length w
  pub zero : (j : ℕ) → 1 ≤ j → j < i → get_or w' j 0 ≡ 0
  pub rest : (j : ℕ) → 2220 ≤ j → get_or w' j 0 ≡ get_or w j 0

pub cleared-none : (w : List ℕ) → Cleared w w 1
cleared-none w =
    record {
      some = omega arith;
      few = omega arith;
      first = refl;
      long = refl;
      zero = λ j h k. absurd (omega (arith, h, k));
      rest = λ j h. refl;
    }

pub cleared_more : (w w' : List ℕ) (i : ℕ) → Long w → i < 2220 → Cleared w w' i → Cleared w (set w' i 0) (i + 1)
cleared_more w w' i long h a =
    let n = a.long in
    let low = a.some in
    record {
      some = omega (arith, low);
      few = omega (arith, h);
      first = get_or-set_other w' i 0 0 0 (λ e. omega (arith, e, low)) ∙ a.first;
      long = length-set w' i 0 ∙ a.long;
      zero =
          λ j some less. below_more (λ (k : ℕ). 1 ≤ k → get_or (set w' i 0) k 0 ≡ 0) i
          (λ k l one. get_or-set_other w' i k 0 0 (λ e. omega (arith, e, l)) ∙ a.zero k one l)
          (λ one. get_or-set_same w' i 0 0 (omega (arith, n, long, h))) j less some;
      rest = λ j k. get_or-set_other w' i j 0 0 (λ e. omega (arith, e, k, h)) ∙ a.rest j k;
    }

pub cleared-all : (w w' : List ℕ) (i : ℕ) → 2220 ≤ i → Cleared w w' i → Clears w w'
cleared-all w w' i h a =
    record {
      first = a.first;
      long = a.long;
      listed = listing-same w w' a.rest;
      zero = λ j k l. a.zero j k (omega (arith, h, l));
    }

-- the records ------------------------------------------------------------------------------------------------------------

-- the first i of those listed are the runtime's
pub record Copied (w w' : List ℕ) (i : ℕ) : Type 0 where
  pub same : Same w w'
  pub few : i ≤ 17
  pub stored : runtime_in w' ≡ with_capabilities (runtime_in w').capabilities (runtime_in w)
  pub room : length (runtime_in w').capabilities ≡ 17
  pub copied : (j : ℕ) → j < i → get_or (runtime_in w').capabilities j no_capability ≡ get_or (listing_in w).records j no_capability

capabilities-room : (w : List ℕ) → length (runtime_in w).capabilities ≡ 17
unfolding runtime_in
capabilities-room w = length-table capability_of w 432 14 17

pub copied_none : (w : List ℕ) → Copied w w 0
copied_none w =
    record {
      same = record { first = refl; long = refl; listed = refl };
      few = omega arith;
      stored = refl;
      room = capabilities-room w;
      copied = λ j h. absurd (omega (arith, h));
    }

module _ (w w' w'' : List ℕ) (i : ℕ) (c : Capability) (h : i < 17) (a : Copied w w' i) (e : c ≡ get_or (listing_in w').records i no_capability)
    (b : Becomes w' w'' (with_capabilities (set (runtime_in w').capabilities i c) (runtime_in w'))) where
  table_is : (runtime_in w'').capabilities ≡ set (runtime_in w').capabilities i c
  table_is = ap (λ (rt : Runtime). rt.capabilities) b.stored

  record_is : c ≡ get_or (listing_in w).records i no_capability
  record_is = e ∙ ap (λ (s : Listed). get_or s.records i no_capability) a.same.listed

  pub copied_more : Copied w w'' (i + 1)
  copied_more =
      record {
        same =
            record {
              first = b.same.first ∙ a.same.first;
              long = b.same.long ∙ a.same.long;
              listed = b.same.listed ∙ a.same.listed;
            };
        few = omega (arith, h);
        stored =
            b.stored
            ∙ ap (λ (rt : Runtime). with_capabilities (set (runtime_in w').capabilities i c) rt) a.stored
            ∙ ap (λ (t : List Capability). with_capabilities t (runtime_in w)) (sym table_is);
        room = capabilities-room w'';
        copied =
            λ j k.
            ap (λ (t : List Capability). get_or t j no_capability) table_is
            ∙ below_more (λ (m : ℕ). get_or (set (runtime_in w').capabilities i c) m no_capability ≡ get_or (listing_in w).records m no_capability) i
            (λ m l. get_or-set_other (runtime_in w').capabilities i m c no_capability (λ same. omega (arith, same, l)) ∙ a.copied m l)
            (get_or-set_same (runtime_in w').capabilities i c no_capability (omega (arith, a.room, h)) ∙ record_is) j k;
      }

pub copied_all : (w w' : List ℕ) (i : ℕ) → 17 ≤ i → Copied w w' i → Copies w w'
copied_all w w' i h a =
    let all : (runtime_in w').capabilities ≡ (listing_in w).records =
    ext_get_or no_capability (runtime_in w').capabilities (listing_in w).records (a.room ∙ sym (listing-room w))
    (λ j k. a.copied j (omega (arith, k, a.room, h))) in
    record { same = a.same; stored = a.stored ∙ ap (λ (t : List Capability). with_capabilities t (runtime_in w)) all }

-- a record as it was read ------------------------------------------------------------------------------------------------

pub taken_at : (w : List ℕ) (i : ℕ) (c : Capability) (t b : Bool) → c ≡ get_or (listing_in w).records i no_capability → t ≡ id_taken (take i (listing_in w).records) c.id → t ≡ b
    → id_taken (take i (listing_in w).records) (get_or (listing_in w).records i no_capability).id ≡ b
taken_at w i c t b e f g = ap (λ (x : Capability). id_taken (take i (listing_in w).records) x.id) (sym e) ∙ sym f ∙ g

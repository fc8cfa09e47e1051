-- The list that is listed for a start: one more, and what the checks make of it. Assumes nothing.
use Prim.Native.Nat.{ℕ, ◌+◌, ◌≤◌, ◌<◌}
use mathlib.Core.Bool.{Bool, true, false, cond}
use mathlib.Core.List.{List, [], ◌∷◌, ◌++◌}
use Rattle.std.specs.Prelude.{Some}
use mathlib.Core.Path.{◌≡◌, refl, sym, ◌∙◌}
use native.Mathlib.Numerals.{add-one}
use native.Mathlib.Omega.{arith}
use borrow.Author.Tests.{ne_eqb, lt-ltb, ltb-true, ltb-false}
use lib.Dec.{eqb, ltb}
use lib.ListN.{length, take, set, length-append, length-set}
use lib.Seq.{take_all, take-append-le, take-suc-set}
use Rattle.model.specs.declared.Capability.{Capability}
use Rattle.model.specs.declared.Config.{Config}
use Rattle.model.specs.Reasons.{invalid_boot_id, invalid_config}
use Rattle.rules.specs.Protocol.{bad_config, refused_record, refused_start}
use Rattle.decide_start.specs.declared.Listed.{Listed}
use Rattle.decide_start.specs.Starts.{Listing, start_on}

module _ (s : Listed) (l : List Capability) (k : Listing s l) where
  module _ (c : Capability) where
    longer : length (l ++ (c ∷ [])) ≡ length l + 1
    longer = length-append l (c ∷ [])

    pub listing-more : s.count < 17 → Listing (record { records = set s.records s.count c; count = s.count + 1 }) (l ++ (c ∷ []))
    listing-more h =
        let e = longer in
        let d = k.counted in
        let r = k.room in
        record {
          room = length-set s.records s.count c ∙ r;
          counted = rw e (omega arith);
          same =
              rw (add-one s.count, take-suc-set s.records s.count c (omega arith), k.same, take_all 17 l (omega arith), take_all 17 (l ++ (c ∷ [])) (omega arith));
        }

    pub listing_full : 17 ≤ s.count → Listing (record { records = s.records; count = 17 }) (l ++ (c ∷ []))
    listing_full h =
        let e = longer in
        let d = k.counted in
        let f : s.count ≡ 17 = omega arith in
        record { room = k.room; counted = rw e (omega arith); same = rw f at k.same ∙ sym (take-append-le 17 l (c ∷ []) (omega arith)) }

-- above 16 both the list and its count are refused, and up to 16 the array holds all of the list
bad-long : (config : Config) (n : ℕ) → 16 < n → bad_config config n ≡ true
unfolding bad_config
bad-long config n h = rw (ne_eqb n 0 (λ e. omega arith), lt-ltb 16 n h)

module _ (config : Config) (s : Listed) (l : List Capability) (boot time flags : ℕ) (k : Listing s l) where
  abbrev Checks : Type 0
  Checks =
      refused_start (start_on config l boot time flags)
      ≡ cond (eqb boot 0) (Some invalid_boot_id) (cond (bad_config config s.count) (Some invalid_config) (refused_record [] (take s.count s.records)))

  long : 16 < length l → Checks
  unfolding refused_start
  long h = let d = k.counted in rw (bad-long config (length l) h, bad-long config s.count (omega arith))

  short : length l ≤ 16 → Checks
  unfolding refused_start
  short h =
      let d = k.counted in
      let n : s.count ≡ length l = omega arith in
      rw (k.same, take_all 17 l (omega arith), n)

  pub refused-listed : Checks
  refused-listed = by (ltb 16 (length l)) refl
    where
      by : (t : Bool) → ltb 16 (length l) ≡ t → Checks
      by true h = long (ltb-true _ _ h)
      by false h = short (ltb-false _ _ h)

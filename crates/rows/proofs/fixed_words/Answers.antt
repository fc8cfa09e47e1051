use Prim.Native.Nat.{ℕ, ◌<◌}
use mathlib.Core.Bool.{Bool, false}
use mathlib.Core.List.{List, [], ◌∷◌}
use mathlib.Core.Path.{◌≡◌}
use native.Mathlib.Nat.{mod-eq_of_lt}
use lib.Dec.{eqb}
use lib.ListN.{get_or, length}
use Rattle.format.specs.Encode.{bit}
use Rattle.state.specs.declared.Fixed.{Fixed}
use Rattle.rows.specs.Rows.{fixed_of, fixed_words}
use Rattle.format.proofs.FieldLaws.{bit-back}
use Rattle.rows.proofs.Codes.{below-back, entries-back}
use borrow.Author.Rules.{rules}
use Rattle.rows.proofs.fixed_words.Goals as goal

module _ (x : Fixed) where
  -- the row, of the bits that the code makes
  row_of : {u₀ u₁ u₂ u₃ u₄ u₅ u₆ u₇ : ℕ} → u₀ ≡ bit (get_or x.used 0 false) → u₁ ≡ bit (get_or x.used 1 false)
      → u₂ ≡ bit (get_or x.used 2 false) → u₃ ≡ bit (get_or x.used 3 false) → u₄ ≡ bit (get_or x.used 4 false)
      → u₅ ≡ bit (get_or x.used 5 false) → u₆ ≡ bit (get_or x.used 6 false) → u₇ ≡ bit (get_or x.used 7 false)
      → ◌≡◌ {A = List ℕ}
      (x.config.watchdog_ms
      ∷ x.config.state_ttl_ms
      ∷ x.config.max_lease_ms
      ∷ x.config.max_valid_for_ms
      ∷ x.config.invalid_limit
      ∷ x.config.estop_mask
      ∷ x.boot_id
      ∷ x.count
      ∷ u₀ ∷ u₁ ∷ u₂ ∷ u₃ ∷ u₄ ∷ u₅ ∷ u₆ ∷ u₇ ∷ [])
      (fixed_words x)
  unfolding fixed_words
  row_of u₀ u₁ u₂ u₃ u₄ u₅ u₆ u₇ = rw (u₀, u₁, u₂, u₃, u₄, u₅, u₆, u₇)

  used-back : length x.used ≡ 8
      → ◌≡◌ {A = List Bool}
      (eqb (bit (get_or x.used 0 false)) 1
      ∷ eqb (bit (get_or x.used 1 false)) 1
      ∷ eqb (bit (get_or x.used 2 false)) 1
      ∷ eqb (bit (get_or x.used 3 false)) 1
      ∷ eqb (bit (get_or x.used 4 false)) 1
      ∷ eqb (bit (get_or x.used 5 false)) 1
      ∷ eqb (bit (get_or x.used 6 false)) 1
      ∷ eqb (bit (get_or x.used 7 false)) 1
      ∷ []) x.used
  used-back e = simp bit-back (entries-back 8 false x.used e)

  fixed_back : x.config.watchdog_ms < 4294967296 → x.config.state_ttl_ms < 4294967296 → x.config.max_lease_ms < 4294967296
      → x.config.max_valid_for_ms < 4294967296 → x.config.invalid_limit < 65536 → x.config.estop_mask < 4294967296
      → x.count < 17 → length x.used ≡ 8 → fixed_of (fixed_words x) ≡ x
  unfolding fixed_of fixed_words
  fixed_back a b c d e f n u =
      rw (mod-eq_of_lt a, mod-eq_of_lt b, mod-eq_of_lt c, mod-eq_of_lt d, mod-eq_of_lt e, mod-eq_of_lt f, below-back 17 x.count n, used-back u)

pub returns : goal.returns
returns c =
    let x = c.args.fixed in
    record {
      row = row_of x c.bit.ensures c.bit-2.ensures c.bit-3.ensures c.bit-4.ensures c.bit-5.ensures c.bit-6.ensures c.bit-7.ensures c.bit-8.ensures;
      back = fixed_back x (search rules) (search rules) (search rules) (search rules) (search rules) (search rules) (search rules) (search rules);
    }

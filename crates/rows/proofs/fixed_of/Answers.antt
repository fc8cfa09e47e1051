use Prim.Native.Nat.{ℕ}
use mathlib.Core.Bool.{Bool}
use mathlib.Core.List.{List, [], ◌∷◌}
use mathlib.Core.Path.{◌≡◌}
use Rattle.format.specs.Decode.{word, u32_at, u16_at, bool_at}
use Rattle.state.specs.declared.Fixed.{Fixed}
use Rattle.rows.specs.Codes.{below}
use Rattle.rows.specs.Rows.{fixed_of}
use Rattle.rows.proofs.fixed_of.Goals as goal

-- fixed data made of its words, field by field
made : (l : List ℕ) {a b c d e f n : ℕ} {u₀ u₁ u₂ u₃ u₄ u₅ u₆ u₇ : Bool} → a ≡ u32_at l 0 → b ≡ u32_at l 1 → c ≡ u32_at l 2 → d ≡ u32_at l 3
    → e ≡ u16_at l 4 → f ≡ u32_at l 5 → u₀ ≡ bool_at l 8 → u₁ ≡ bool_at l 9 → u₂ ≡ bool_at l 10 → u₃ ≡ bool_at l 11 → u₄ ≡ bool_at l 12
    → u₅ ≡ bool_at l 13 → u₆ ≡ bool_at l 14 → u₇ ≡ bool_at l 15 → n ≡ below 17 (word l 7)
    → ◌≡◌ {A = Fixed}
    (record {
      config =
          record {
            watchdog_ms = a;
            state_ttl_ms = b;
            max_lease_ms = c;
            max_valid_for_ms = d;
            invalid_limit = e;
            estop_mask = f;
          };
      boot_id = word l 6;
      count = n;
      used = u₀ ∷ u₁ ∷ u₂ ∷ u₃ ∷ u₄ ∷ u₅ ∷ u₆ ∷ u₇ ∷ [];
    })
    (fixed_of l)
unfolding fixed_of
made l a b c d e f u₀ u₁ u₂ u₃ u₄ u₅ u₆ u₇ n = rw (a, b, c, d, e, f, u₀, u₁, u₂, u₃, u₄, u₅, u₆, u₇, n)

pub returns : goal.returns
returns c = made c.args.words c.as_u32.ensures c.as_u32-2.ensures c.as_u32-3.ensures c.as_u32-4.ensures c.as_u16.ensures c.as_u32-5.ensures c.as_bool.ensures c.as_bool-2.ensures c.as_bool-3.ensures c.as_bool-4.ensures c.as_bool-5.ensures c.as_bool-6.ensures c.as_bool-7.ensures c.as_bool-8.ensures c.held_below.ensures

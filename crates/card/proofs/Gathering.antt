-- One field is read: what the fields come to stays. Assumes nothing.
use Prim.Native.Nat.{ℕ, ◌+◌, ◌/◌, ◌%◌, ◌^◌, ◌<◌}
use mathlib.Core.Bool.{true}
use mathlib.Core.List.{List}
use mathlib.Core.Path.{◌≡◌, sym, ap, ◌∙◌}
use native.Mathlib.Omega.{arith}
use borrow.Author.Tests.{eq-eqb, ne_eqb}
use lib.ListN.{length, drop, get_or, set, length-set}
use lib.Seq.{take_all}
use Rattle.std.specs.Prelude.{Some, None}
use native.Mathlib.Nat.{div-one}
use Rattle.std.proofs.lemmas.Nat.{shr-shr}
use Rattle.card.specs.Card.{widths, odd, field_in, fields_in}
use Rattle.card.specs.Functions.{Reached}
use Rattle.card.proofs.Reading.{prefixed-nil, fields-clear, fields-none, fields-set, next-within, zero-set, bits_left, bytes_left, none_left}

module _ (map : ℕ) (body : List ℕ) where
  -- before the first field
  pub begun : (ns : List ℕ) → length ns ≡ 22 → ((k : ℕ) → get_or ns k 0 ≡ 0) → Reached map body 0 0 ns
  begun ns n z = record { within = omega arith; size = n; zeros = λ k h. z k; fields = prefixed-nil _ ∙ ap (λ (m : ℕ). fields_in widths m body) (div-one map) }

  module _ (i : ℕ) (l : i < 22) (place : ℕ) (ns : List ℕ) (r : Reached map body i place ns) where
    halved : map / 2 ^ i / 2 ≡ map / 2 ^ (i + 1)
    halved = shr-shr map i 1

    -- a field whose bit does not stand
    pub clear-on : (map / 2 ^ i) % 2 ≡ 0 → Reached map body (i + 1) place ns
    clear-on h =
        record {
          within = r.within;
          size = r.size;
          zeros = λ k j. r.zeros k (omega arith);
          fields = rw (← halved) (sym (fields-clear i l (map / 2 ^ i) body place ns r.size (ne_eqb _ 1 (λ q. omega (arith, q))) r.zeros) ∙ r.fields);
        }

    -- the field's w bytes
    module _ (w : ℕ) (q : w ≡ get_or widths i 0) (h : (map / 2 ^ i) % 2 ≡ 0 → ⊥) where
      bit : odd (map / 2 ^ i) ≡ true
      bit = eq-eqb _ 1 (omega arith)

      pub none-on : field_in true w (drop place body) ≡ None → None ≡ fields_in widths map body
      none-on f = sym (fields-none i l (map / 2 ^ i) body place ns r.size w q bit f) ∙ r.fields

      pub set_on : (n : ℕ) → field_in true w (drop place body) ≡ Some n → Reached map body (i + 1) (place + w) (set ns i n)
      set_on n f =
          record {
            within = next-within i l (map / 2 ^ i) body place ns r.size w q bit n f r.within;
            size = length-set ns i n ∙ r.size;
            zeros = zero-set i n ns r.zeros;
            fields = rw (← halved) (sym (fields-set i l (map / 2 ^ i) body place ns r.size w q bit n f) ∙ r.fields);
          }

  -- after the last
  module _ (place : ℕ) (ns : List ℕ) (r : Reached map body 22 place ns) where
    pub last-bits : (map / 2 ^ 22 ≡ 0 → ⊥) → None ≡ fields_in widths map body
    last-bits h = sym (bits_left _ _ _ h) ∙ r.fields

    pub last-bytes : map / 2 ^ 22 ≡ 0 → 0 < length (drop place body) → None ≡ fields_in widths map body
    last-bytes e h = sym (bytes_left _ _ _ e h) ∙ r.fields

    pub last-sound : map / 2 ^ 22 ≡ 0 → length (drop place body) ≡ 0 → Some ns ≡ fields_in widths map body
    last-sound e h = ap Some (sym (take_all 22 ns (omega (arith, r.size)))) ∙ sym (none_left _ _ _ e h) ∙ r.fields

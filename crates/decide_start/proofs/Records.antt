-- The checks of a start's records, as a loop makes them: the record at a place, after those before it. Assumes nothing.
use Prim.Native.Nat.{ℕ, ◌+◌, ◌<◌, ◌≤◌, min}
use mathlib.Core.Bool.{true, false}
use mathlib.Core.List.{List, ◌∷◌}
use Rattle.std.specs.Prelude.{Some, None}
use mathlib.Core.Path.{◌≡◌}
use native.Mathlib.Numerals.{add-one}
use native.Mathlib.Omega.{arith}
use lib.ListN.{length, get_or, take, drop, length-take, drop_of_length-le}
use lib.Seq.{take-suc, drop-cons, get_or-take}
use Rattle.model.specs.declared.Capability.{Capability}
use Rattle.model.specs.Reasons.{invalid_capability, duplicate_capability}
use Rattle.model.specs.Soundness.{sound, id_taken}
use Rattle.rules.specs.Protocol.{refused_record}

module _ (l : List Capability) (count i : ℕ) (d : Capability) (h : i < length l) (k : i < count) where
  next : drop i (take count l) ≡ get_or l i d ∷ drop (i + 1) (take count l)
  next =
      let within : i < length (take count l) = simp length-take (omega arith) in
      rw (drop-cons (take count l) i d within, get_or-take count l i d k, add-one)

  pub record-unsound : sound (get_or l i d) ≡ false → refused_record (take i l) (drop i (take count l)) ≡ Some invalid_capability
  unfolding refused_record
  record-unsound e = rw (next, e)

  pub record-taken : sound (get_or l i d) ≡ true → id_taken (take i l) (get_or l i d).id ≡ true
      → refused_record (take i l) (drop i (take count l)) ≡ Some duplicate_capability
  unfolding refused_record
  record-taken e t = rw (next, e, t)

  pub record-passes : sound (get_or l i d) ≡ true → id_taken (take i l) (get_or l i d).id ≡ false
      → refused_record (take i l) (drop i (take count l)) ≡ refused_record (take (i + 1) l) (drop (i + 1) (take count l))
  unfolding refused_record
  record-passes e t = rw (next, e, t, add-one, take-suc l i d h)

pub records-end : (earlier l : List Capability) (count i : ℕ) → min count (length l) ≤ i → refused_record earlier (drop i (take count l)) ≡ None
unfolding refused_record
records-end earlier l count i h =
    let past : length (take count l) ≤ i = simp length-take h in
    rw (drop_of_length-le (take count l) past)

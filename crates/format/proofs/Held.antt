-- A value of the code's types meets the conditions of Inputs and Back: whatever the code can hold has words that hold it whole. Assumes nothing.
use native.Mathlib.Omega.{arith}
use mathlib.Core.List.{List, [], ◌∷◌}
use mathlib.Core.Path.{◌≡◌}
use borrow.Author.Rules.{rules}
use denote.Array.{Array, each}
use denote.Builtin.{i32}
use denote.Laws.{Is}
use denote.RattleType.{RattleType}
use denote.Shadow.{shadow}
use lib.IntN.{ℤ}
use lib.ListN.{length}
use mir.Val.{Val}
use Rattle.model.specs.contracts.Bounds.{the_row as bounds-row}
use Rattle.model.specs.contracts.Capability.{the_row as capability-row}
use Rattle.model.specs.contracts.Lease.{the_row as lease-row}
use Rattle.model.specs.contracts.Receipt.{the_row as receipt-row}
use Rattle.model.specs.contracts.Verification.{the_row as verification-row}
use Rattle.model.specs.declared.Bounds.{Bounds}
use Rattle.model.specs.declared.Capability.{Capability}
use Rattle.model.specs.declared.Lease.{Lease}
use Rattle.model.specs.declared.Receipt.{Receipt}
use Rattle.model.specs.declared.Verification.{Verification}
use Rattle.format.specs.Inputs.{I32, Two, two, RangedBounds, RangedVerification, RangedCapability}
use Rattle.format.specs.Back.{FitsReceipt, FitsLease}

-- arrays of two
module _ (R : RattleType) (P : R.Denot → Type 0) (held : (x : R.Denot) (vs : List Val) → Is R x vs → P x) where
  each-held : (l : List R.Denot) (us : List Val) → length l ≡ 2 → shadow (each R.Denot R.own_val l us) → Two P l
  each-held [] us n p = absurd (omega arith)
  each-held (a ∷ []) us n p = absurd (omega arith)
  each-held (a ∷ b ∷ []) [] n p = absurd p
  each-held (a ∷ b ∷ []) (u ∷ []) n p = absurd p.1
  each-held (a ∷ b ∷ []) (u ∷ v ∷ us) n p = two (held a (u ∷ []) p.0) (held b (v ∷ []) p.1.0)
  each-held (a ∷ b ∷ x ∷ l) us n p = absurd (omega arith)

  two-held : (l : List R.Denot) (vs : List Val) → Is (Array R 2) l vs → Two P l
  two-held l vs p = each-held l p.0 p.1.0.1 p.1.1

i32-held : (z : ℤ) (vs : List Val) → Is i32 z vs → I32 z
i32-held z vs p = record { sfits = p.1 }

bounds-held : (b : Bounds) (vs : List Val) → Is bounds-row b vs → RangedBounds b
bounds-held b vs p = (i32-held b.min _ p.1.1.0, i32-held b.max _ p.1.1.1.0)

verification-held : (v : Verification) (vs : List Val) → Is verification-row v vs → RangedVerification v
verification-held Verification.Parameters vs p = tt
verification-held (Verification.State mask value) vs p = (search rules, search rules)

pub receipt-held : (r : Receipt) (vs : List Val) → Is receipt-row r vs → FitsReceipt r
receipt-held r vs p =
    let q = p.1.1.1.1.1.1.1.1.1.1.1.1.1.1.1.1 in
    (two-held i32 I32 i32-held r.requested _ q.0, two-held i32 I32 i32-held r.observed _ q.1.0)

pub lease-held : (l : Lease) (vs : List Val) → Is lease-row l vs → FitsLease l
lease-held l vs p = two-held bounds-row RangedBounds bounds-held l.limits _ p.1.1.1.1.1.1.1.0

pub capability-held : (c : Capability) (vs : List Val) → Is capability-row c vs → RangedCapability c
capability-held c vs p =
    record {
      id = search rules;
      resource = search rules;
      parameter_count = search rules;
      bounds = two-held bounds-row RangedBounds bounds-held c.bounds _ p.1.1.1.1.1.1.0;
      require_set = search rules;
      require_clear = search rules;
      verification = verification-held c.verification _ p.1.1.1.1.1.1.1.1.1.0;
    }

-- The receipts that are pushed, and what the rule keeps of them.
use Rattle.std.specs.Prelude.{ℕ, zero, suc, ◌/◌, ◌%◌, ◌^◌, cond, ◌≡◌, List, [], ◌∷◌, eqb}
use Rattle.model.specs.Records.{no_receipt}
use Rattle.model.specs.declared.Decision.{Decision}
use Rattle.model.specs.declared.Decision.TheVariants.{Executed, Rejected}
use Rattle.model.specs.declared.Receipt.{Receipt}
use Rattle.rules.specs.Receipts.{keep}
use Rattle.receipts.specs.declared.Ring.{Ring}
use Rattle.receipts.specs.Rings.{Kept, receipts_of}

-- the kind of the receipt with a number
abbrev pub decision_of : ℕ → ℕ → Decision
decision_of id kinds = cond (eqb ((kinds / 2 ^ (id % 64)) % 2) 1) Rejected Executed

unfoldable pub numbered_receipt : ℕ → ℕ → Receipt
numbered_receipt id kinds = record no_receipt { receipt_id = id; decision = decision_of id kinds }

-- what the ring keeps of the receipts 0 to n - 1
unfoldable pub kept_after : ℕ → ℕ → List Receipt
kept_after kinds zero = []
kept_after kinds (suc n) = keep 64 (kept_after kinds n) (numbered_receipt n kinds)

-- the number of the oldest; 0 where nothing is kept
abbrev pub oldest_of : List Receipt → ℕ
oldest_of [] = 0
oldest_of (r ∷ rs) = r.receipt_id

-- a ring that keeps what the rule keeps of the receipts 0 to n - 1
pub record Filled (kinds n : ℕ) (ring : Ring) : Type 0 where
  pub kept : Kept ring
  pub keeps : receipts_of ring ≡ kept_after kinds n

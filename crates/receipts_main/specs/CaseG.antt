-- Case G of 01: the receipts issued, of which number 5 is the only rejection.
use Rattle.std.specs.Prelude.{ℕ, zero, suc, ◌≡◌, cond, List, [], ◌∷◌, ◌++◌, eqb, Option, Some, None}
use Rattle.model.specs.Records.{no_receipt}
use Rattle.model.specs.declared.Decision.{Decision}
use Rattle.model.specs.declared.Decision.TheVariants.{Executed, Rejected}
use Rattle.model.specs.declared.Receipt.{Receipt}
use Rattle.rules.specs.Receipts.{keep}
use Rattle.receipts.specs.declared.Ring.{Ring}
use Rattle.receipts.specs.Rings.{Kept, receipts_of}

abbrev pub decision_of : ℕ → Decision
decision_of number = cond (eqb number 5) Rejected Executed

unfoldable pub receipt_of : ℕ → Receipt
receipt_of number = record no_receipt { boot_id = 1; receipt_id = number; decision = decision_of number }

-- the receipts from 1 to a number
unfoldable pub issued : ℕ → List Receipt
issued zero = []
issued (suc n) = issued n ++ (receipt_of (suc n) ∷ [])

-- number 5 goes, and then the oldest
abbrev pub with65 : List Receipt
with65 = keep 64 (issued 64) (receipt_of 65)

abbrev pub with66 : List Receipt
with66 = keep 64 with65 (receipt_of 66)

abbrev pub number_of : Option Receipt → ℕ
number_of None = 0
number_of (Some r) = r.receipt_id

-- a ring that keeps a list
pub record Holds (ring : Ring) (l : List Receipt) : Type 0 where
  pub kept : Kept ring
  pub keeps : receipts_of ring ≡ l

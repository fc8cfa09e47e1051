-- The receipt of numbers, by what the numbers of decision and reason stand for. Assumes nothing.
use Prim.Native.Nat.{ℕ}
use mathlib.Core.List.{List}
use mathlib.Core.Bool.{Bool, true, false}
use mathlib.Core.Path.{◌≡◌, refl}
use Rattle.std.specs.Prelude.{Some, None}
use Rattle.std.specs.Int.{from_bool}
use Rattle.model.specs.Decisions.{decision_at}
use Rattle.model.specs.Reasons.{reason_at}
use Rattle.model.specs.declared.Decision.{Decision}
use Rattle.model.specs.declared.Reason.{Reason}
use Rattle.card.specs.Card.{nth, bit, receipt_with, receipt_from, receipt_of}

module _ (ns : List ℕ) where
  pub no-decision : decision_at (nth ns 9) ≡ None → None ≡ receipt_of ns
  unfolding receipt_of receipt_from
  no-decision e = rw e

  pub no-reason : {d : Decision} → decision_at (nth ns 9) ≡ Some d → reason_at (nth ns 10) ≡ None → None ≡ receipt_of ns
  unfolding receipt_of receipt_from
  no-reason e h = rw (e, h)

  pub whole : {d : Decision} {x : Reason} → decision_at (nth ns 9) ≡ Some d → reason_at (nth ns 10) ≡ Some x
      → Some (receipt_with d x ns) ≡ receipt_of ns
  unfolding receipt_of receipt_from
  whole e h = rw (e, h)

-- a yes/no field as the library makes it a number
pub bit_from : (t : Bool) → from_bool t ≡ bit t
unfolding bit
bit_from true = refl
bit_from false = refl

-- A decision and its number determine each other. Assumes nothing.
use Prim.Native.Nat.{ℕ, zero, suc, ◌≤◌}
use mathlib.Core.Path.{◌≡◌, refl, sym, ap}
use native.Mathlib.Omega.{arith}
use Rattle.model.specs.declared.Decision.{Decision}
use Rattle.model.specs.declared.Decision.TheVariants.{Executed, Rejected, Fallback, Control, Failed}
use Rattle.std.specs.Prelude.{Some, None}
use Rattle.std.proofs.lemmas.Option.{none-some}
use Rattle.model.proofs.Options.{some-injective}
use Rattle.model.specs.Decisions.{decision_number, decision_at}

pub decision-unknown : (n : ℕ) → 5 ≤ n → decision_at n ≡ None
unfolding decision_at
decision-unknown zero h = absurd (omega arith)
decision-unknown (suc zero) h = absurd (omega arith)
decision-unknown (suc (suc zero)) h = absurd (omega arith)
decision-unknown (suc (suc (suc zero))) h = absurd (omega arith)
decision-unknown (suc (suc (suc (suc zero)))) h = absurd (omega arith)
decision-unknown (suc (suc (suc (suc (suc n))))) h = refl

-- from a decision to its number and back
pub decision-number : (d : Decision) → decision_at (decision_number d) ≡ Some d
unfolding decision_number decision_at
decision-number Executed = refl
decision-number Rejected = refl
decision-number Fallback = refl
decision-number Control = refl
decision-number Failed = refl

-- from a number to its decision and back
pub number-decision : (n : ℕ) (d : Decision) → decision_at n ≡ Some d → decision_number d ≡ n
unfolding decision_number decision_at
number-decision zero d e = sym (ap decision_number (some-injective _ _ e))
number-decision (suc zero) d e = sym (ap decision_number (some-injective _ _ e))
number-decision (suc (suc zero)) d e = sym (ap decision_number (some-injective _ _ e))
number-decision (suc (suc (suc zero))) d e = sym (ap decision_number (some-injective _ _ e))
number-decision (suc (suc (suc (suc zero)))) d e = sym (ap decision_number (some-injective _ _ e))
number-decision (suc (suc (suc (suc (suc n))))) d e = absurd (none-some _ e)

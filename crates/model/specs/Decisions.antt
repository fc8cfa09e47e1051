-- The decisions and their numbers (model.rs, `enum Decision`).
use Rattle.std.specs.Prelude.{ℕ, ◌≡◌, List, [], ◌∷◌, Option, Some, None, Result, MatchResult, slice_get}
use Rattle.model.specs.declared.Decision.{Decision}
use Rattle.model.specs.declared.Decision.TheVariants.{Executed, Rejected, Fallback, Control, Failed}
use Rattle.model.specs.declared.UnknownNumber.{UnknownNumber}

unfoldable pub decision_number : Decision → ℕ
decision_number Executed = 0
decision_number Rejected = 1
decision_number Fallback = 2
decision_number Control = 3
decision_number Failed = 4

-- every decision, each at the place that is its number
abbrev pub decisions : List Decision
decisions = Executed ∷ Rejected ∷ Fallback ∷ Control ∷ Failed ∷ []

-- the decision that a number stands for, or none
abbrev pub decision_at : ℕ → Option Decision
decision_at n = slice_get decisions n

-- what is made of a number: its decision, or an error where it has none
abbrev pub StandsForDecision : ℕ → Result Decision UnknownNumber → Type 0
StandsForDecision n r = MatchResult r (λ decision. decision_at n ≡ Some decision) (λ _. decision_at n ≡ None)

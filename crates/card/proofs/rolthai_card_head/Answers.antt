use mathlib.Core.Path.{ap, ◌∙◌}
use Rattle.std.specs.Prelude.{ℕ, Option, unwrap_or}
use Rattle.card.proofs.Writing.{counted-or}
use Rattle.card.proofs.rolthai_card_head.Goals as goal

pub returns-clause-answer : goal.returns-clause-answer
returns-clause-answer c = c.unwrap_or.ensures ∙ ap (λ (o : Option ℕ). unwrap_or o 0) c.put_head.ensures.answer ∙ counted-or _ _ _

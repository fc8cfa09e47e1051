use mathlib.Core.Path.{refl}
use Rattle.card.specs.Card.{widths}
use Rattle.card.proofs.width.Goals as goal

pub returns-clause-value : goal.returns-clause-value
unfolding widths
returns-clause-value c = refl

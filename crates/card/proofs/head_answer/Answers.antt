use mathlib.Core.Path.{sym, ◌∙◌}
use Rattle.card.specs.Wire.{head_answer}
use Rattle.card.proofs.head_answer.Goals as goal

pub returns-then-has_head : goal.returns-then-has_head
unfolding head_answer
returns-then-has_head c = rw (sym c.has_head.ensures ∙ c.if-has_head.true)

pub returns-else-has_head : goal.returns-else-has_head
unfolding head_answer
returns-else-has_head c = rw (sym c.has_head.ensures ∙ c.if-has_head.false)

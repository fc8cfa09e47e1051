use mathlib.Core.Path.{sym, ◌∙◌}
use Rattle.decide_start.proofs.first_trial.Goals as goal

pub returns-then-is_refusal : goal.returns-then-is_refusal
returns-then-is_refusal c = rw (sym c.is_refusal.ensures ∙ c.if-is_refusal.true) c.ended.ensures

pub returns : goal.returns
returns c = rw (sym c.is_refusal.ensures ∙ c.if-is_refusal.false, sym c.first_used.ensures) c.tried.ensures

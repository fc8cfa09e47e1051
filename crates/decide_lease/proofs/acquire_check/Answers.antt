use mathlib.Core.Path.{sym, ◌∙◌}
use Rattle.decide_lease.proofs.Checks.{same-failure}
use Rattle.decide_lease.proofs.acquire_check.Goals as goal

pub returns : goal.returns
returns c = λ t q h s shown. same-failure _ _ (sym c.ruling_of.ensures ∙ c.checks_of_acquire-check.ensures t q h s shown)

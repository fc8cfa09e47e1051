use mathlib.Core.Path.{sym, ◌∙◌}
use Rattle.decide_lease.proofs.Checks.{same-failure}
use Rattle.decide_lease.proofs.renew_check.Goals as goal

pub returns : goal.returns
returns c = λ t shown. same-failure _ _ (sym c.ruling_of.ensures ∙ c.checks_of_renew-check.ensures t shown)

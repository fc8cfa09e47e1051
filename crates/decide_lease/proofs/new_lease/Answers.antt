use mathlib.Core.Path.{refl}
use Rattle.rules.specs.Rules.{new_lease}
use Rattle.decide_lease.proofs.new_lease.Goals as goal

pub returns : goal.returns
unfolding new_lease
returns c = refl

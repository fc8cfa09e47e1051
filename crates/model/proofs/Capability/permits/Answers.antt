use mathlib.Core.Path.{refl}
use borrow.Author.Tests.{eq-eqb, ne_eqb}
use Rattle.model.proofs.Tests.{and-when, and-unless}
use Rattle.model.proofs.Capability.permits.Goals as goal

pub returns-then-flags-self : goal.returns-then-flags-self
returns-then-flags-self c = and-when (eq-eqb _ _ c.if-flags-self.true) refl

pub returns-else-flags-self : goal.returns-else-flags-self
returns-else-flags-self c = and-unless _ (ne_eqb _ _ c.if-flags-self.false) (ne_eqb _ _ c.if-flags-self.false)

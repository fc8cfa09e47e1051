use borrow.Author.Rules.{rules}
use mathlib.Core.Path.{sym, ◌∙◌}
use borrow.Author.Tests.{eq-eqb, ne_eqb}
use Rattle.model.specs.Bounds.{is_zero}
use Rattle.model.proofs.Tests.{and-when, and-unless, signed-zero}
use Rattle.model.proofs.Bounds.is_zero.Goals as goal

pub returns-then-self-eq0 : goal.returns-then-self-eq0
unfolding is_zero
returns-then-self-eq0 c =
    let a = c.args in
    and-when (sym (signed-zero a.self.min (search rules)) ∙ eq-eqb _ _ c.if-self-eq0.true) (signed-zero a.self.max (search rules))

pub returns-else-self-eq0 : goal.returns-else-self-eq0
unfolding is_zero
returns-else-self-eq0 c =
    let a = c.args in
    and-unless _ (sym (signed-zero a.self.min (search rules)) ∙ ne_eqb _ _ c.if-self-eq0.false) (ne_eqb _ _ c.if-self-eq0.false)

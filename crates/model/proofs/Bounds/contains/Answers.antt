use borrow.Author.Rules.{rules}
use mathlib.Core.Path.{sym, ◌∙◌}
use mir.Syntax.{w32}
use Rattle.model.proofs.Tests.{and-when, and-unless, signed_le}
use Rattle.model.proofs.Bounds.contains.Goals as goal

pub returns-then-value-self : goal.returns-then-value-self
returns-then-value-self c =
    let a = c.args in
    and-when (sym (signed_le w32 a.self.min a.value (search rules) (search rules)) ∙ c.if-value-self.true) (signed_le w32 a.value a.self.max (search rules) (search rules))

pub returns-else-value-self : goal.returns-else-value-self
returns-else-value-self c =
    let a = c.args in
    and-unless _ (sym (signed_le w32 a.self.min a.value (search rules) (search rules)) ∙ c.if-value-self.false) c.if-value-self.false

use mathlib.Core.Path.{sym, ◌∙◌}
use borrow.Author.Tests.{eq-eqb, ne_eqb}
use Rattle.model.proofs.Meaning.{permits-formula}
use Rattle.rules.specs.Admission.{first_failing}
use Rattle.decide_order.specs.Checks.{state_checks}
use Rattle.decide_order.proofs.state_check.Goals as goal

pub returns-then-action-epoch : goal.returns-then-action-epoch
unfolding state_checks first_failing
returns-then-action-epoch c = rw (ne_eqb _ _ c.if-action-epoch.true)

pub returns-then-not-all_contain : goal.returns-then-not-all_contain
unfolding state_checks first_failing
returns-then-not-all_contain c = rw (eq-eqb _ _ c.if-action-epoch.false, sym c.all_contain.ensures ∙ c.if-not-all_contain.true)

pub returns-then-not-all_contain-2 : goal.returns-then-not-all_contain-2
unfolding state_checks first_failing
returns-then-not-all_contain-2 c =
    rw (
      eq-eqb _ _ c.if-action-epoch.false,
      sym c.all_contain.ensures ∙ c.if-not-all_contain.false,
      sym c.all_contain-2.ensures ∙ c.if-not-all_contain-2.true,
    )

pub returns-then-permits : goal.returns-then-permits
unfolding state_checks first_failing
returns-then-permits c =
    rw (
      eq-eqb _ _ c.if-action-epoch.false,
      sym c.all_contain.ensures ∙ c.if-not-all_contain.false,
      sym c.all_contain-2.ensures ∙ c.if-not-all_contain-2.false,
      ← permits-formula,
      ← c.permits.ensures,
      c.if-permits.true,
    )

pub returns : goal.returns
unfolding state_checks first_failing
returns c =
    rw (
      eq-eqb _ _ c.if-action-epoch.false,
      sym c.all_contain.ensures ∙ c.if-not-all_contain.false,
      sym c.all_contain-2.ensures ∙ c.if-not-all_contain-2.false,
      ← permits-formula,
      ← c.permits.ensures,
      c.if-permits.false,
    )

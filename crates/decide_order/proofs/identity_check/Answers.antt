use borrow.Author.Tests.{eq-eqb, ne_eqb}
use Rattle.rules.specs.Admission.{first_failing}
use Rattle.decide_order.specs.Checks.{identity_checks}
use Rattle.decide_order.proofs.identity_check.Goals as goal

pub returns-then-action-boot_id : goal.returns-then-action-boot_id
unfolding identity_checks first_failing
returns-then-action-boot_id c = rw (ne_eqb _ _ c.if-action-boot_id.true)

pub returns-then-submission-eq0 : goal.returns-then-submission-eq0
unfolding identity_checks first_failing
returns-then-submission-eq0 c = rw (eq-eqb _ _ c.if-action-boot_id.false, eq-eqb _ _ c.if-submission-eq0.true)

pub returns-then-submission-action : goal.returns-then-submission-action
unfolding identity_checks first_failing
returns-then-submission-action c = rw (eq-eqb _ _ c.if-action-boot_id.false, ne_eqb _ _ c.if-submission-eq0.false, ne_eqb _ _ c.if-submission-action.true)

pub returns : goal.returns
unfolding identity_checks first_failing
returns c = rw (eq-eqb _ _ c.if-action-boot_id.false, ne_eqb _ _ c.if-submission-eq0.false, eq-eqb _ _ c.if-submission-action.false)

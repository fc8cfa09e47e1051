use native.Mathlib.Omega.{arith}
use borrow.Author.Tests.{eq-eqb, ne_eqb}
use Rattle.model.specs.Words.{share_no_bit}
use Rattle.rules.specs.Admission.{has_bit, authorizes}
use Rattle.decide_order.proofs.Bits.{below, bit}
use Rattle.decide_order.proofs.is_authorized.Goals as goal

pub returns-then-lease-action : goal.returns-then-lease-action
unfolding authorizes
returns-then-lease-action c = λ h. rw (ne_eqb _ _ c.if-lease-action.true)

pub returns-then-lease-submission : goal.returns-then-lease-submission
unfolding authorizes
returns-then-lease-submission c = λ h. rw (eq-eqb _ _ c.if-lease-action.false, ne_eqb _ _ c.if-lease-submission.true)

pub overflow_cast-result : goal.overflow_cast-result
overflow_cast-result c = record { fits = omega (arith, below c.args.submission.action.capability) }

pub overflow_shl-result : goal.overflow_shl-result
overflow_shl-result c = below c.args.submission.action.capability

pub returns : goal.returns
unfolding authorizes has_bit share_no_bit
returns c =
    λ h.
    rw (bit _ h, eq-eqb _ _ c.if-lease-action.false, eq-eqb _ _ c.if-lease-submission.false)

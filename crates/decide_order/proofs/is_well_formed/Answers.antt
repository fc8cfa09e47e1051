use borrow.Author.Tests.{eq-eqb, ne_eqb, le-leb, lt-leb, lt-ltb, le-ltb}
use Rattle.rules.specs.Admission.{bad_duration, well_formed}
use Rattle.decide_order.proofs.is_well_formed.Goals as goal

pub returns-then-action-eq0 : goal.returns-then-action-eq0
unfolding well_formed
returns-then-action-eq0 c = λ book e. rw (eq-eqb _ _ c.if-action-eq0.true)

pub returns-then-action-eq0-2 : goal.returns-then-action-eq0-2
unfolding well_formed
returns-then-action-eq0-2 c = λ book e. rw (ne_eqb _ _ c.if-action-eq0.false, eq-eqb _ _ c.if-action-eq0-2.true)

pub returns-then-submission : goal.returns-then-submission
unfolding well_formed
returns-then-submission c =
    λ book e.
    rw (ne_eqb _ _ c.if-action-eq0.false, ne_eqb _ _ c.if-action-eq0-2.false, lt-leb _ _ c.if-submission.true)

pub returns-then-action-eq0-3 : goal.returns-then-action-eq0-3
unfolding well_formed bad_duration
returns-then-action-eq0-3 c =
    λ book e.
    rw (
      ne_eqb _ _ c.if-action-eq0.false,
      ne_eqb _ _ c.if-action-eq0-2.false,
      le-leb _ _ c.if-submission.false,
      eq-eqb _ _ c.if-action-eq0-3.true,
    )

pub returns-then-action-config : goal.returns-then-action-config
unfolding well_formed bad_duration
returns-then-action-config c =
    λ book e.
    rw (
      e,
      ne_eqb _ _ c.if-action-eq0.false,
      ne_eqb _ _ c.if-action-eq0-2.false,
      le-leb _ _ c.if-submission.false,
      ne_eqb _ _ c.if-action-eq0-3.false,
      lt-ltb _ _ c.if-action-config.true,
    )

pub returns : goal.returns
unfolding well_formed bad_duration
returns c =
    λ book e.
    rw (
      e,
      ne_eqb _ _ c.if-action-eq0.false,
      ne_eqb _ _ c.if-action-eq0-2.false,
      le-leb _ _ c.if-submission.false,
      ne_eqb _ _ c.if-action-eq0-3.false,
      le-ltb _ _ c.if-action-config.false,
    )

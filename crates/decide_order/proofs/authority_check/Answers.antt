use mathlib.Core.Path.{sym, ◌∙◌}
use Rattle.rules.specs.Admission.{first_failing, holds_of}
use Rattle.decide_order.specs.Checks.{authority_checks}
use Rattle.decide_order.proofs.authority_check.Goals as goal

pub returns-then-not-known : goal.returns-then-not-known
unfolding authority_checks first_failing
returns-then-not-known c = λ low. rw (c.if-not-known.true)

pub returns-in-Absent : goal.returns-in-Absent
unfolding authority_checks first_failing holds_of
returns-in-Absent c =
    λ low.
    rw (c.if-not-known.false, c.in-Absent.is)

pub returns-then-not-is_authorized : goal.returns-then-not-is_authorized
unfolding authority_checks first_failing holds_of
returns-then-not-is_authorized c =
    λ low.
    let known = c.if-not-known.false in
    rw (known, c.in-Present.is, sym (c.is_authorized.ensures (low known)) ∙ c.if-not-is_authorized.true)

pub returns : goal.returns
unfolding authority_checks first_failing holds_of
returns c =
    λ low.
    let known = c.if-not-known.false in
    rw (known, c.in-Present.is, sym (c.is_authorized.ensures (low known)) ∙ c.if-not-is_authorized.false)

use borrow.Author.Rules.{rules}
use borrow.Author.Tests.{eq-eqb, ne_eqb}
use mathlib.Core.Path.{refl}
use Rattle.model.proofs.Tests.{and-when, and-unless}
use Rattle.rules.specs.Admission.{holds_of, is_held_by}
use Rattle.decide_lease.proofs.is_held.Goals as goal

pub returns-in-Absent : goal.returns-in-Absent
unfolding holds_of
returns-in-Absent c = search rules

pub returns-then-lease-lease_id : goal.returns-then-lease-lease_id
unfolding holds_of is_held_by
returns-then-lease-lease_id c = rw c.in-Present.is (and-when (eq-eqb _ _ c.if-lease-lease_id.true) refl)

pub returns-else-lease-lease_id : goal.returns-else-lease-lease_id
unfolding holds_of is_held_by
returns-else-lease-lease_id c = rw c.in-Present.is (and-unless _ (ne_eqb _ _ c.if-lease-lease_id.false) (ne_eqb _ _ c.if-lease-lease_id.false))

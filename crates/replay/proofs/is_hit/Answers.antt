use borrow.Author.Rules.{rules}
use borrow.Author.Tests.{eq-eqb, ne_eqb}
use mathlib.Core.Path.{refl}
use Rattle.model.proofs.Tests.{and-when, and-unless}
use Rattle.rules.specs.Admission.{is_entry}
use Rattle.replay.specs.Ring.{hit_in}
use Rattle.replay.proofs.is_hit.Goals as goal

pub returns-in-Absent : goal.returns-in-Absent
unfolding hit_in
returns-in-Absent c = search rules

pub returns-then-entry-owner : goal.returns-then-entry-owner
unfolding hit_in is_entry
returns-then-entry-owner c = rw c.in-Present.is (and-when (eq-eqb _ _ c.if-entry-owner.true) refl)

pub returns-else-entry-owner : goal.returns-else-entry-owner
unfolding hit_in is_entry
returns-else-entry-owner c = rw c.in-Present.is (and-unless _ (ne_eqb _ _ c.if-entry-owner.false) (ne_eqb _ _ c.if-entry-owner.false))

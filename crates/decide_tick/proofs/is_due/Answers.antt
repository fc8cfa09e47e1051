use mathlib.Core.Bool.{Bool, true, false, cond}
use Rattle.std.specs.Prelude.{Some, None}
use mathlib.Core.Path.{◌≡◌, refl, sym, ◌∙◌}
use Rattle.model.specs.declared.Reason.{Reason}
use Rattle.rules.specs.Admission.{is_some}
use Rattle.rules.specs.Rules.{due}
use Rattle.decide_tick.proofs.is_due.Goals as goal

some-if : (o : Bool) (r : Reason) → o ≡ is_some (cond o (Some r) None)
unfolding is_some
some-if true r = refl
some-if false r = refl

pub returns-then-is_lease_over : goal.returns-then-is_lease_over
unfolding due is_some
returns-then-is_lease_over c = simp (sym c.is_lease_over.ensures ∙ c.if-is_lease_over.true)

pub returns : goal.returns
unfolding due
returns c = simp (sym c.is_lease_over.ensures ∙ c.if-is_lease_over.false, sym c.is_order_over.ensures) (some-if _ _)

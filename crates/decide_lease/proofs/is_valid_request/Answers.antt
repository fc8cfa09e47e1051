use Prim.Native.Nat.{ℕ, ◌<◌}
use borrow.Author.Rules.{rules}
use borrow.Author.Tests.{eq-eqb, ne_eqb}
use mathlib.Core.Bool.{Bool, true, false}
use mathlib.Core.List.{List}
use mathlib.Core.Path.{◌≡◌, sym, ◌∙◌}
use lib.ListN.{get_or}
use Rattle.model.specs.declared.Capability.{Capability}
use Rattle.model.specs.Soundness.{axis_used}
use Rattle.rules.specs.Admission.{valid_request}
use Rattle.state.specs.State.{Checked, book_of}
use Rattle.decide_lease.proofs.Axes.{unused-past}
use Rattle.decide_lease.proofs.is_valid_request.Goals as goal

-- what the marks say of the axis
in_use : {cs : List Capability} {marks : List Bool} (axis : ℕ) → Checked cs marks → axis < 8 → get_or marks axis false ≡ true → axis_used cs axis ≡ true
in_use axis k low marked = sym (k.used axis low) ∙ marked

pub returns-then-request-gt7 : goal.returns-then-request-gt7
unfolding valid_request book_of
returns-then-request-gt7 c =
    λ n t q h s.
    simp (unused-past c.args.request.resource t.capabilities s.checked.each (search rules))

pub returns-then-not-fixed-request : goal.returns-then-not-fixed-request
unfolding valid_request book_of
returns-then-not-fixed-request c =
    λ n t q h s.
    simp (sym (s.checked.used c.args.request.resource (search rules)) ∙ c.if-not-fixed-request.true)

pub returns-then-request-eq0 : goal.returns-then-request-eq0
unfolding valid_request book_of
returns-then-request-eq0 c =
    λ n t q h s.
    simp (in_use c.args.request.resource s.checked (search rules) c.if-not-fixed-request.false, eq-eqb _ _ c.if-request-eq0.true)

pub returns-then-request-eq0-2 : goal.returns-then-request-eq0-2
unfolding valid_request book_of
returns-then-request-eq0-2 c =
    λ n t q h s.
    simp (
      in_use c.args.request.resource s.checked (search rules) c.if-not-fixed-request.false,
      ne_eqb _ _ c.if-request-eq0.false,
      eq-eqb _ _ c.if-request-eq0-2.true,
    )

pub returns-then-bad_duration : goal.returns-then-bad_duration
unfolding valid_request book_of
returns-then-bad_duration c =
    λ n t q h s.
    simp (
      in_use c.args.request.resource s.checked (search rules) c.if-not-fixed-request.false,
      ne_eqb _ _ c.if-request-eq0.false,
      ne_eqb _ _ c.if-request-eq0-2.false,
      sym c.bad_duration.ensures ∙ c.if-bad_duration.true,
    )

pub returns : goal.returns
unfolding valid_request book_of
returns c =
    λ n t q h s.
    simp (
      in_use c.args.request.resource s.checked (search rules) c.if-not-fixed-request.false,
      ne_eqb _ _ c.if-request-eq0.false,
      ne_eqb _ _ c.if-request-eq0-2.false,
      sym c.bad_duration.ensures ∙ c.if-bad_duration.false,
      c.all_ordered.ensures,
    )

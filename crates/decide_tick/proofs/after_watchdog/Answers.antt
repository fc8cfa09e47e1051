use mathlib.Core.Bool.{◌&&◌, false, and-false}
use mathlib.Core.Path.{◌≡◌, refl, sym, ◌∙◌}
use Rattle.rules.specs.Admission.{is_armed}
use Rattle.rules.specs.Rules.{staleness}
use Rattle.rules.specs.With.{with_last_tick}
use Rattle.state.specs.Axes.{up_from, axes_from}
use Rattle.state.specs.State.{book_of, after_trip}
use Rattle.state.proofs.Courses.{leads-from, sound-from}
use borrow.Author.Rules.{rules}
use Rattle.decide_tick.proofs.after_watchdog.Goals.{then-is_stale+else-is_armed, else-is_stale}
use Rattle.decide_tick.proofs.after_watchdog.Goals as goal

pub returns-then-is_armed : goal.returns-then-is_armed
unfolding book_of with_last_tick staleness after_trip
returns-then-is_armed c =
    λ inside t q h s d.
    leads-from (refl, refl, refl, refl)
    (simp (sym (c.is_stale.ensures t) ∙ c.if-is_stale.true, sym c.is_armed.ensures ∙ c.if-is_armed.true))
    (c.trips.ensures.1 (search rules) t q h (sound-from (refl, refl, refl, refl) s))

-- not stale, or not Armed
pub returns : goal.returns
unfolding book_of with_last_tick staleness axes_from up_from
returns c =
    let a = c.args in
    let idle : (c.is_stale.result && is_armed a.numbers.mode.state) ≡ false =
    elim c.if-is_stale.branch [
      | then-is_stale+else-is_armed w ↦ rw (sym w.is_armed.ensures ∙ w.if-is_armed.false) (and-false c.is_stale.result)
      | else-is_stale w ↦ rw w.if-is_stale.false refl
    ] in
    λ inside t q h s d.
    leads-from (refl, refl, refl, refl) (simp (sym (c.is_stale.ensures t), idle))
    (c.expiries.ensures a.fixed 0 inside t q h (sound-from (refl, refl, refl, refl) s) d)

use Prim.Native.Nat.{◌-◌}
use mathlib.Core.Bool.{false, ◌&&◌, and-false}
use mathlib.Core.Path.{◌≡◌, sym, ◌∙◌}
use borrow.Author.Tests.{le-ltb}
use lib.Dec.{ltb}
use Rattle.rules.specs.Admission.{is_armed}
use Rattle.decide_tick.specs.Ticks.{ShowsDue}
use Rattle.decide_tick.proofs.Opens.{back-so, spent-so, late-so, watched-so}
use borrow.Author.Rules.{rules}
use Rattle.decide_tick.proofs.opening_tick.Goals.{then-time-numbers-2+else-is_armed, else-time-numbers-2}
use Rattle.decide_tick.proofs.opening_tick.Goals as goal

pub returns-then-time-numbers : goal.returns-then-time-numbers
returns-then-time-numbers c =
    let a = c.args in
    λ inside t q h s d. back-so a.fixed a.numbers a.time c.if-time-numbers.true (c.trips.ensures.1 (search rules)) t q h s

pub returns-then-is_exhausted : goal.returns-then-is_exhausted
returns-then-is_exhausted c =
    let a = c.args in
    λ inside t q h s d.
    spent-so a.fixed a.numbers a.time c.if-time-numbers.false (λ t'. sym (c.is_exhausted.ensures a.fixed t') ∙ c.if-is_exhausted.true)
    (c.trips-then-is_exhausted.ensures.1 (search rules)) t q h s

pub returns-then-is_armed : goal.returns-then-is_armed
returns-then-is_armed c =
    let a = c.args in
    λ inside t q h s d.
    late-so a.fixed a.numbers a.time c.if-time-numbers.false
    (λ t'. sym (c.is_exhausted.ensures a.fixed t') ∙ c.if-is_exhausted.false) c.if-time-numbers-2.true
    (sym c.is_armed.ensures ∙ c.if-is_armed.true) (c.trips-then-is_armed.ensures.1 (search rules)) t q h s

-- within the watchdog's limit, or not Armed
pub returns : goal.returns
returns c =
    let a = c.args in
    let late = ltb a.fixed.config.watchdog_ms (a.time - a.numbers.last_tick) in
    let idle : (late && is_armed a.numbers.mode.state) ≡ false =
    elim c.if-time-numbers-2.branch [
      | then-time-numbers-2+else-is_armed w ↦ rw (sym w.is_armed.ensures ∙ w.if-is_armed.false) (and-false late)
      | else-time-numbers-2 w ↦ rw (le-ltb _ _ w.if-time-numbers-2.false)
    ] in
    λ inside.
    watched-so a.fixed a.numbers a.time c.if-time-numbers.false
    (λ t. sym (c.is_exhausted.ensures a.fixed t) ∙ c.if-is_exhausted.false) idle (ShowsDue a.time 0 a.axis a.lease)
    (c.after_watchdog.ensures inside)

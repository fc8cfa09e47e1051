-- The first axis whose order the flags forbid: where the loop over the axes goes, and the course that follows. Assumes nothing.
use Prim.Native.Nat.{ℕ, zero, suc, ◌+◌, ◌-◌, ◌<◌, ◌≤◌}
use mathlib.Core.Bool.{Bool, true, false, cond, not}
use mathlib.Core.Path.{◌≡◌, refl, sym, ap, ◌∙◌}
use native.Mathlib.Omega.{arith}
use borrow.Author.Tests.{lt-ltb, le-ltb}
use lib.Dec.{eqb, ltb}
use Rattle.model.specs.declared.Reason.TheVariants as Reason
use Rattle.model.specs.declared.RuntimeState.{RuntimeState}
use Rattle.model.specs.Lists.{any}
use Rattle.model.specs.Words.{permits}
use Rattle.rules.specs.Admission.{holds_of, is_some}
use Rattle.rules.specs.Book.{Book, active_at}
use Rattle.rules.specs.Interaction.{Interaction, Done, Returned}
use Rattle.rules.specs.Rules.{select, refreshed, refresh_state, fallback, fallback_or_trip, preconditions}
use Rattle.rules.specs.With.{with_state}
use Rattle.state.specs.Axes.{axes_from, first_or8, first_from}
use Rattle.state.specs.State.{book_of, flags_end, after_fallback_of, after_fallback, InBounds}
use Rattle.state.specs.Stores.{Takes, TakesWhere}
use Rattle.state.specs.declared.AfterFallback.TheVariants as AfterFallback
use Rattle.state.specs.declared.AfterTrip.TheVariants as AfterTrip
use Rattle.state.specs.declared.Course.{Course}
use Rattle.state.specs.declared.Falling.{Falling}
use Rattle.state.specs.declared.Fixed.{Fixed}
use Rattle.state.specs.declared.Numbers.{Numbers}
use Rattle.state.proofs.Axes.{axes-step, axes-end, select-hit, select-miss, select-end}
use Rattle.state.proofs.Courses.{leads-to, SameCounts, sound-from, leads-from, tripping}
use Rattle.state.proofs.Tables.{held_any}
use Rattle.decide_flags.specs.Flags.{ShowsForbidden}

abbrev forbids : Book → ℕ → Bool
forbids b axis = holds_of (active_at b axis) (λ a. not (permits a.capability b.flags))

-- what the loop comes to, by the first axis that it finds
abbrev at_first : ℕ → Book → (Book → Interaction) → ℕ → Interaction
at_first time b next r =
    cond (ltb r 8) (fallback_or_trip r Reason.Precondition time b (λ b'. preconditions (axes_from (r + 1)) time b' next)) (next b)

module _ (time : ℕ) (b : Book) (next : Book → Interaction) where
  found : (n i : ℕ) → 8 - i ≡ n → preconditions (axes_from i) time b next ≡ at_first time b next (first_or8 (select (forbids b) (axes_from i)))
  unfolding preconditions first_or8
  found zero i e = rw (select-end (forbids b) i (omega arith), axes-end i (omega arith))
  found (suc n) i e = test (forbids b i) refl (found n (i + 1) (omega arith))
    where
      low : i < 8
      low = omega arith

      test : (t : Bool) → forbids b i ≡ t
          → preconditions (axes_from (i + 1)) time b next ≡ at_first time b next (first_or8 (select (forbids b) (axes_from (i + 1))))
          → preconditions (axes_from i) time b next ≡ at_first time b next (first_or8 (select (forbids b) (axes_from i)))
      test true q rest = rw (select-hit (forbids b) i low q, axes-step i low, q, lt-ltb i 8 low)
      test false q rest = rw (select-miss (forbids b) i low q, axes-step i low, q) rest

  first_of : (from axis : ℕ) → axis ≡ first_from (forbids b) from → preconditions (axes_from from) time b next ≡ at_first time b next axis
  unfolding first_from
  first_of from axis e = found (8 - from) from refl ∙ ap (at_first time b next) (sym e)

-- courses ----------------------------------------------------------------------------------------------------------------

abbrev falling_at : ℕ → ℕ → Falling
falling_at axis time =
    record {
      time = time;
      axis = axis;
      at = axis;
      reason = Reason.Precondition;
      after = AfterFallback.Precondition;
      good = true;
      after_trip = AfterTrip.Precondition;
    }

module _ (f : Fixed) (n : Numbers) (time from axis : ℕ) {c : Course} where
  pub forbids-so : axis < 8
      → (InBounds (falling_at axis time)
      → Takes f n c (λ b q. fallback axis Reason.Precondition time b (after_fallback (falling_at axis time) b.capabilities q)))
      → TakesWhere f n c (ShowsForbidden n.flags from axis) (λ b q. preconditions (axes_from from) time b flags_end)
  unfolding after_fallback_of fallback_or_trip book_of
  forbids-so low k t q h s shown =
      leads-to (sym (first_of time (book_of f n t) flags_end from axis shown ∙ rw (lt-ltb axis 8 low))) (k (record { axis = low; at = low }) t q h s)

  pub refreshes-so : 8 ≤ axis → (state : RuntimeState) → state ≡ refreshed (not (eqb n.held 0)) n.mode.state
      → Takes f (tripping state n) c (λ b q. Done b Returned)
      → TakesWhere f n c (ShowsForbidden n.flags from axis) (λ b q. preconditions (axes_from from) time b flags_end)
  unfolding refresh_state with_state book_of
  refreshes-so high state e k t q h s shown =
      let same : SameCounts n (tripping state n) = (refl, refl, refl, refl) in
      let held : not (eqb n.held 0) ≡ any is_some t.leases = ap (λ x. not (eqb x 0)) s.counted.held ∙ held_any t.leases in
      leads-from same (sym (first_of time (book_of f n t) flags_end from axis shown ∙ rw (le-ltb axis 8 high, e, held))) (k t q h (sound-from same s))

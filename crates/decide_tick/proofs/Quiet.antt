-- A tick before `soonest` that trips nothing goes straight on. Assumes nothing.
use Prim.Native.Nat.{ℕ, ◌-◌, ◌<◌, ◌≤◌}
use mathlib.Core.Bool.{Bool, true, false, not, ◌&&◌, and-false}
use mathlib.Core.List.{List, [], ◌∷◌}
use Rattle.std.specs.Prelude.{Option, Some, None}
use mathlib.Core.Path.{◌≡◌, refl, ap, ◌∙◌}
use native.Mathlib.Omega.{arith}
use borrow.Author.Tests.{le-ltb, lt-leb}
use lib.Dec.{leb, eqb}
use lib.ListN.{get_or}
use Rattle.model.specs.declared.Active.{Active}
use Rattle.model.specs.declared.Lease.{Lease}
use Rattle.model.specs.declared.RuntimeState.{RuntimeState}
use Rattle.rules.specs.Admission.{axes, holds_of, is_armed, is_some, is_stale}
use Rattle.rules.specs.Book.{Book}
use Rattle.rules.specs.Rules.{select, refreshed, refresh_state, due, exhausted, watchdog, staleness, supervise, tick}
use Rattle.rules.specs.With.{with_last_tick, with_state}
use Rattle.state.specs.State.{Tables, book_of, Counted}
use Rattle.state.specs.declared.Fixed.{Fixed}
use Rattle.state.specs.declared.Numbers.{Numbers}
use Rattle.decide_tick.specs.declared.Begun.TheVariants.{Quiet}
use Rattle.decide_tick.specs.Ticks.{Quietly, OpensAs}
use Rattle.decide_tick.proofs.Due.{is_over, none-due, refreshes}

-- nothing on an axis is over before `soonest`
module _ (time : ℕ) (b : Book) where
  none-selected : ((axis : ℕ) → is_over time b axis ≡ false) → (over : List ℕ) → select (is_over time b) over ≡ []
  unfolding select
  none-selected k [] = refl
  none-selected k (axis ∷ rest) = rw (k axis) (none-selected k rest)

  module _ {n soonest : ℕ} (c : Counted n soonest b.leases b.active) (early : time < soonest) where
    stands : {A : Type 0} (ends : A → ℕ) (o : Option A) → ((a : A) → o ≡ Some a → soonest ≤ ends a) → holds_of o (λ a. leb (ends a) time) ≡ false
    unfolding holds_of
    stands ends None k = refl
    stands ends (Some a) k = lt-leb (ends a) time (omega (arith, k a refl))

    early-axis : (axis : ℕ) → is_over time b axis ≡ false
    unfolding due is_some
    early-axis axis =
        rw (
          stands (λ (l : Lease). l.expires_at) (get_or b.leases axis None) (c.leases axis),
          stands (λ (a : Active). a.expires_at) (get_or b.active axis None) (c.active axis),
        )

    early-axes : select (is_over time b) axes ≡ []
    early-axes = none-selected early-axis axes

-- what is tried while Armed only
armed-only : (x armed : Bool) → (armed ≡ true → x ≡ false) → (x && armed) ≡ false
armed-only x true k = rw (k refl)
armed-only x false k = and-false x

module _ (f : Fixed) (n : Numbers) (time : ℕ) where
  pub quiet-so : n.last_tick ≤ time → time < n.soonest → ((t : Tables) → exhausted (book_of f n t) ≡ false)
      → (is_armed n.mode.state ≡ true → time - n.last_tick ≤ f.config.watchdog_ms)
      → (is_armed n.mode.state ≡ true → (t : Tables) → is_stale time (book_of f n t) ≡ false) → Quietly f n time
  unfolding book_of tick supervise watchdog staleness is_stale with_last_tick
  quiet-so late early left watched fresh t q h s next =
      let b = with_last_tick time (book_of f n t) in
      rw (
        le-ltb time n.last_tick late,
        left t,
        armed-only _ _ (λ armed. le-ltb f.config.watchdog_ms (time - n.last_tick) (watched armed)),
        armed-only _ _ (λ armed. fresh armed t),
      )
      (none-due time b (λ b'. next (refresh_state b')) axes (early-axes time b s.counted early))

  pub opens-so : (mode : RuntimeState) → mode ≡ refreshed (not (eqb n.held 0)) n.mode.state → Quietly f n time
      → OpensAs Quiet f n time (record { state = mode })
  unfolding OpensAs book_of with_last_tick with_state
  opens-so mode e k t q h s next = k t q h s next ∙ ap next (refreshes n.held (with_last_tick time (book_of f n t)) mode e s.counted.held)

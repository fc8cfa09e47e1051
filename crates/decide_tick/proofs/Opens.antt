-- Where an opening tick goes, by its tests. Assumes nothing.
use Prim.Native.Nat.{ℕ, ◌-◌, ◌<◌, ◌≤◌}
use mathlib.Core.Bool.{true, false, ◌&&◌}
use mathlib.Core.Path.{◌≡◌}
use borrow.Author.Tests.{lt-ltb, le-ltb}
use lib.Dec.{ltb}
use Rattle.model.specs.declared.Reason.TheVariants.{Clock, Faulted, Watchdog}
use Rattle.rules.specs.Admission.{axes, is_armed}
use Rattle.rules.specs.Rules.{trip, exhausted, watchdog, staleness, expiries, supervise, tick}
use Rattle.rules.specs.With.{with_last_tick}
use Rattle.state.specs.State.{Tables, book_of, after_tick, tick_end, after_trip}
use Rattle.state.specs.Stores.{Takes, TakesWhere}
use Rattle.state.specs.declared.AfterTrip.TheVariants as AfterTrip
use Rattle.state.specs.declared.Course.{Course}
use Rattle.state.specs.declared.Fixed.{Fixed}
use Rattle.state.specs.declared.Numbers.{Numbers}
use Rattle.state.proofs.Courses.{leads-to}

module _ (f : Fixed) (n : Numbers) (time : ℕ) {c : Course} where
  pub back-so : time < n.last_tick → Takes f n c (λ b q. trip Clock time b (after_trip AfterTrip.Tick 0 time q))
      → Takes f n c (λ b q. tick time b (after_tick q))
  unfolding book_of tick after_trip
  back-so back k t q h s = leads-to (rw (lt-ltb time n.last_tick back)) (k t q h s)

  module _ (on : n.last_tick ≤ time) where
    pub spent-so : ((t : Tables) → exhausted (book_of f n t) ≡ true)
        → Takes f n c (λ b q. trip Faulted time b (after_trip AfterTrip.Tick 0 time q)) → Takes f n c (λ b q. tick time b (after_tick q))
    unfolding book_of tick after_trip
    spent-so spent k t q h s = leads-to (rw (le-ltb time n.last_tick on, spent t)) (k t q h s)

    module _ (unspent : (t : Tables) → exhausted (book_of f n t) ≡ false) where
      pub late-so : f.config.watchdog_ms < time - n.last_tick → is_armed n.mode.state ≡ true
          → Takes f n c (λ b q. trip Watchdog time b (after_trip AfterTrip.Watchdog 0 time q)) → Takes f n c (λ b q. tick time b (after_tick q))
      unfolding book_of tick supervise watchdog after_trip
      late-so late armed k t q h s =
          leads-to (rw (le-ltb time n.last_tick on, unspent t, lt-ltb f.config.watchdog_ms (time - n.last_tick) late, armed)) (k t q h s)

      pub watched-so : (ltb f.config.watchdog_ms (time - n.last_tick) && is_armed n.mode.state) ≡ false → (shown : Tables → Type 0)
          → TakesWhere f n c shown (λ b q. staleness time (with_last_tick time b) (λ b'. expiries axes time b' (tick_end q)))
          → TakesWhere f n c shown (λ b q. tick time b (after_tick q))
      unfolding book_of tick supervise watchdog
      watched-so idle shown k t q h s d = leads-to (rw (le-ltb time n.last_tick on, unspent t, idle)) (k t q h s d)

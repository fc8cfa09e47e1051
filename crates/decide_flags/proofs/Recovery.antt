-- The local recovery: when it is refused, its fallbacks, and its end. Assumes nothing.
use Prim.Native.Nat.{ℕ, ◌<◌, ◌≤◌}
use mathlib.Core.Bool.{Bool, true, false, ◌||◌}
use mathlib.Core.Path.{◌≡◌, refl}
use native.Mathlib.Omega.{arith}
use borrow.Author.Tests.{eq-eqb, ne_eqb}
use lib.Bits.{bit_and}
use lib.Dec.{ltb}
use Rattle.model.specs.declared.Reason.TheVariants as Reason
use Rattle.model.specs.declared.RuntimeState.TheVariants.{SafeIdle, Faulted}
use Rattle.model.specs.Words.{share_no_bit}
use Rattle.rules.specs.Admission.{is_stale}
use Rattle.rules.specs.Interaction.{Done, Succeeded, Refused}
use Rattle.rules.specs.Rules.{used_axes, fallback, exhausted, meets_estop, recovered, recoveries, recover}
use Rattle.rules.specs.With.{with_state, with_invalid_count}
use Rattle.state.specs.Axes.{up_from, axes_from, used_from, first_used}
use Rattle.state.specs.State.{Tables, book_of, after_fallback_of, after_fallback, InBounds}
use Rattle.state.specs.Stores.{Takes}
use Rattle.state.specs.declared.AfterFallback.TheVariants as AfterFallback
use Rattle.state.specs.declared.AfterTrip.TheVariants as AfterTrip
use Rattle.state.specs.declared.Course.{Course}
use Rattle.state.specs.declared.Falling.{Falling}
use Rattle.state.specs.declared.Fixed.{Fixed}
use Rattle.state.specs.declared.Numbers.{Numbers}
use Rattle.state.proofs.Axes.{used-first, used-none}
use Rattle.state.proofs.Courses.{leads-to, SameCounts, sound-from, leads-from, tripping}

abbrev recovering_at : ℕ → Bool → ℕ → Falling
recovering_at axis good time =
    record {
      time = time;
      axis = axis;
      at = 0;
      reason = Reason.Recovered;
      after = AfterFallback.Recovery;
      good = good;
      after_trip = AfterTrip.Return;
    }

abbrev idle_again : Numbers → Numbers
idle_again n =
    record {
      next_receipt = n.next_receipt;
      next_lease = n.next_lease;
      epoch = n.epoch;
      state_at = n.state_at;
      last_tick = n.last_tick;
      flags = n.flags;
      estop_seen = n.estop_seen;
      invalid_count = 0;
      mode = record { state = SafeIdle };
      held = n.held;
      soonest = n.soonest;
    }

module _ (f : Fixed) (n : Numbers) (time from : ℕ) (good : Bool) {c : Course} (axis : ℕ) (first : axis ≡ first_used f.used from) where
  pub falls-on : axis < 8
      → (InBounds (recovering_at axis good time)
      → Takes f n c (λ b q. fallback axis Reason.Recovered time b (after_fallback (recovering_at axis good time) b.capabilities q)))
      → Takes f n c (λ b q. recoveries (used_from b.capabilities from) good time b)
  unfolding recoveries after_fallback_of book_of
  falls-on low k t q h s =
      leads-to (rw (used-first s.checked from axis first low)) (k (record { axis = low; at = omega arith }) t q h s)

  pub idles-so : 8 ≤ axis → good ≡ true → Takes f (idle_again n) c (λ b q. Done b Succeeded)
      → Takes f n c (λ b q. recoveries (used_from b.capabilities from) good time b)
  unfolding recoveries recovered with_state with_invalid_count book_of
  idles-so high e k t q h s =
      let same : SameCounts n (idle_again n) = (refl, refl, refl, refl) in
      leads-from same (rw (used-none s.checked from axis first high, e)) (k t q h (sound-from same s))

  pub faults-so : 8 ≤ axis → good ≡ false → Takes f (tripping Faulted n) c (λ b q. Done b (Refused Reason.Driver))
      → Takes f n c (λ b q. recoveries (used_from b.capabilities from) good time b)
  unfolding recoveries recovered with_state book_of
  faults-so high e k t q h s =
      let same : SameCounts n (tripping Faulted n) = (refl, refl, refl, refl) in
      leads-from same (rw (used-none s.checked from axis first high, e)) (k t q h (sound-from same s))

-- what refuses it ----------------------------------------------------------------------------------------------------------

-- 5: too early, a stale state or a counter at the top
abbrev pub barred : Fixed → Numbers → ℕ → Tables → Bool
barred f n time t = ltb time n.last_tick || (is_stale time (book_of f n t) || exhausted (book_of f n t))

module _ (f : Fixed) (n : Numbers) (time : ℕ) {c : Course} where
  pub estops-so : (bit_and n.flags f.config.estop_mask ≡ 0 → ⊥) → Takes f n c (λ b q. Done b (Refused Reason.Estop))
      → Takes f n c (λ b q. recover time b)
  unfolding recover meets_estop share_no_bit book_of
  estops-so m k t q h s = leads-to (rw (ne_eqb _ _ m)) (k t q h s)

  module _ (m : bit_and n.flags f.config.estop_mask ≡ 0) where
    pub bars-so : ((t : Tables) → barred f n time t ≡ true) → Takes f n c (λ b q. Done b (Refused Reason.Precondition))
        → Takes f n c (λ b q. recover time b)
    unfolding recover meets_estop share_no_bit book_of
    bars-so e k t q h s = leads-to (rw (eq-eqb _ _ m, e t)) (k t q h s)

    pub recovers-so : ((t : Tables) → barred f n time t ≡ false) → Takes f n c (λ b q. recoveries (used_from b.capabilities 0) true time b)
        → Takes f n c (λ b q. recover time b)
    unfolding recover meets_estop share_no_bit used_axes used_from axes_from up_from book_of
    recovers-so e k t q h s = leads-to (rw (eq-eqb _ _ m, e t)) (k t q h s)

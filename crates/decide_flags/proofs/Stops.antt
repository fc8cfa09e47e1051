-- The two stops, and what a poll finds. Assumes nothing.
use Prim.Native.Nat.{ℕ, max}
use mathlib.Core.Bool.{true}
use mathlib.Core.Path.{◌≡◌, refl}
use lib.Bits.{bit_or}
use Rattle.model.specs.declared.Reason.TheVariants as Reason
use Rattle.rules.specs.Interaction.{Done, Polled}
use Rattle.rules.specs.Rules.{trip, stop_time, masked, emergency_stop}
use Rattle.rules.specs.With.{with_flags, with_last_tick, with_estop_seen}
use Rattle.state.specs.State.{book_of, after_trip}
use Rattle.state.specs.Stores.{Takes}
use Rattle.state.specs.declared.AfterTrip.{AfterTrip}
use Rattle.state.specs.declared.Course.{Course}
use Rattle.state.specs.declared.Fixed.{Fixed}
use Rattle.state.specs.declared.Numbers.{Numbers}
use Rattle.state.proofs.Courses.{SameCounts, sound-from, leads-from}

abbrev stopping : ℕ → ℕ → Numbers → Numbers
stopping flags time n =
    record {
      next_receipt = n.next_receipt;
      next_lease = n.next_lease;
      epoch = n.epoch;
      state_at = n.state_at;
      last_tick = time;
      flags = flags;
      estop_seen = n.estop_seen;
      invalid_count = n.invalid_count;
      mode = n.mode;
      held = n.held;
      soonest = n.soonest;
    }

pub stops_so : (f : Fixed) (n : Numbers) (time : ℕ) (after : AfterTrip) {c : Course} (larger : ℕ) → larger ≡ max n.last_tick time
    → Takes f (stopping (bit_or n.flags f.config.estop_mask) larger n) c (λ b q. trip Reason.Estop larger b (after_trip after 0 larger q))
    → Takes f n c (λ b q. emergency_stop time b (after_trip after 0 (stop_time time b) q))
unfolding emergency_stop stop_time masked with_flags with_last_tick book_of
stops_so f n time after larger e k t q h s =
    let same : SameCounts n (stopping (bit_or n.flags f.config.estop_mask) larger n) = (refl, refl, refl, refl) in
    leads-from same (rw e) (k t q h (sound-from same s))

abbrev seeing : ℕ → Numbers → Numbers
seeing raised n =
    record {
      next_receipt = n.next_receipt;
      next_lease = n.next_lease;
      epoch = n.epoch;
      state_at = n.state_at;
      last_tick = n.last_tick;
      flags = n.flags;
      estop_seen = raised;
      invalid_count = n.invalid_count;
      mode = n.mode;
      held = n.held;
      soonest = n.soonest;
    }

pub polls-so : (f : Fixed) (n : Numbers) (raised time : ℕ) {c : Course}
    → Takes f (seeing raised n) c (λ b q. emergency_stop time b (after_trip AfterTrip.Poll 0 (stop_time time b) q))
    → Takes f n c (λ b q. emergency_stop time (with_estop_seen raised b) (λ b'. Done b' (Polled true)))
unfolding with_estop_seen book_of after_trip
polls-so f n raised time k t q h s =
    let same : SameCounts n (seeing raised n) = (refl, refl, refl, refl) in
    leads-from same refl (k t q h (sound-from same s))

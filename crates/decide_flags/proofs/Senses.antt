-- Flags that come in: too early, the same, or new. Assumes nothing.
use Prim.Native.Nat.{ℕ, ◌<◌, ◌≤◌}
use mathlib.Core.Path.{◌≡◌, refl, sym}
use borrow.Author.Tests.{lt-ltb, le-ltb, eq-eqb, ne_eqb}
use lib.Bits.{bit_and}
use Rattle.model.specs.declared.Reason.TheVariants as Reason
use Rattle.model.specs.Words.{share_no_bit}
use Rattle.rules.specs.Interaction.{Done, Returned}
use Rattle.rules.specs.Receipts.{bump}
use Rattle.rules.specs.Rules.{bump_epoch, trip, preconditions, meets_estop, flagged, new_flags, sense}
use Rattle.rules.specs.With.{with_epoch, with_flags, with_state_at}
use Rattle.state.specs.Axes.{up_from, axes_from}
use Rattle.state.specs.State.{Tables, book_of, flags_end, after_trip}
use Rattle.state.specs.Stores.{Takes, TakesWhere}
use Rattle.state.specs.declared.AfterTrip.TheVariants as AfterTrip
use Rattle.state.specs.declared.Course.{Course}
use Rattle.state.specs.declared.Fixed.{Fixed}
use Rattle.state.specs.declared.Numbers.{Numbers}
use Rattle.state.proofs.Courses.{leads-to, SameCounts, sound-from, leads-from}
use Rattle.decide_flags.specs.Flags.{ShowsForbidden, stamped}

pub same_flags : (f : Fixed) (n : Numbers) (flags time : ℕ) → n.last_tick ≤ time → flags ≡ n.flags → (t : Tables)
    → sense flags time (book_of f n t) ≡ Done (book_of f (stamped time n) t) Returned
unfolding sense book_of with_state_at
same_flags f n flags time h e t = simp (le-ltb _ _ h, eq-eqb _ _ e)

abbrev with_new : ℕ → ℕ → ℕ → Numbers → Numbers
with_new flags epoch time n =
    record {
      next_receipt = n.next_receipt;
      next_lease = n.next_lease;
      epoch = epoch;
      state_at = time;
      last_tick = n.last_tick;
      flags = flags;
      estop_seen = n.estop_seen;
      invalid_count = n.invalid_count;
      mode = n.mode;
      held = n.held;
      soonest = n.soonest;
    }

module _ (f : Fixed) (n : Numbers) (axis flags time : ℕ) {c : Course} where
  pub early-so : time < n.last_tick → Takes f n c (λ b q. Done b Returned) → TakesWhere f n c (ShowsForbidden flags 0 axis) (λ b q. sense flags time b)
  unfolding sense book_of
  early-so h k t q hand s shown = leads-to (rw (lt-ltb time n.last_tick h)) (k t q hand s)

  module _ (h : n.last_tick ≤ time) where
    pub same-so : flags ≡ n.flags → Takes f (stamped time n) c (λ b q. Done b Returned)
        → TakesWhere f n c (ShowsForbidden flags 0 axis) (λ b q. sense flags time b)
    same-so e k t q hand s shown =
        let same : SameCounts n (stamped time n) = (refl, refl, refl, refl) in
        leads-from same (sym (same_flags f n flags time h e t)) (k t q hand (sound-from same s))

    module _ (e : flags ≡ n.flags → ⊥) (epoch : ℕ) (p : epoch ≡ bump n.epoch) where
      pub stop-so : (bit_and flags f.config.estop_mask ≡ 0 → ⊥)
          → Takes f (with_new flags epoch time n) c (λ b q. trip Reason.Estop time b (after_trip AfterTrip.Return 0 time q))
          → TakesWhere f n c (ShowsForbidden flags 0 axis) (λ b q. sense flags time b)
      unfolding sense new_flags flagged meets_estop share_no_bit bump_epoch with_flags with_epoch with_state_at book_of after_trip
      stop-so m k t q hand s shown =
          let same : SameCounts n (with_new flags epoch time n) = (refl, refl, refl, refl) in
          leads-from same (rw (le-ltb _ _ h, ne_eqb _ _ e, ne_eqb _ _ m, p)) (k t q hand (sound-from same s))

      pub new-so : bit_and flags f.config.estop_mask ≡ 0
          → TakesWhere f (with_new flags epoch time n) c (ShowsForbidden flags 0 axis) (λ b q. preconditions (axes_from 0) time b flags_end)
          → TakesWhere f n c (ShowsForbidden flags 0 axis) (λ b q. sense flags time b)
      unfolding sense new_flags flagged meets_estop share_no_bit bump_epoch with_flags with_epoch with_state_at book_of axes_from up_from
      new-so m k t q hand s shown =
          let same : SameCounts n (with_new flags epoch time n) = (refl, refl, refl, refl) in
          leads-from same (rw (le-ltb _ _ h, ne_eqb _ _ e, eq-eqb _ _ m, p)) (k t q hand (sound-from same s) shown)

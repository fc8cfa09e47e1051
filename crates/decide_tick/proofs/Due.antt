-- The loop over the axes that expire goes to the first that is due; where none is, the tick ends. Assumes nothing.
use Prim.Native.Nat.{ℕ, zero, suc, ◌+◌, ◌-◌, ◌<◌, ◌≤◌}
use mathlib.Core.Bool.{Bool, true, false, cond, not, false≢true}
use mathlib.Core.List.{List, [], ◌∷◌}
use Rattle.std.specs.Prelude.{Option, Some, None}
use mathlib.Core.Path.{◌≡◌, refl, sym, ap, ◌∙◌}
use native.Mathlib.Omega.{arith}
use lib.Dec.{leb, eqb}
use Rattle.model.specs.declared.LeaseSlot.{LeaseSlot}
use Rattle.model.specs.declared.Reason.{Reason}
use Rattle.model.specs.declared.Reason.TheVariants.{LeaseExpired, StreamExpired}
use Rattle.model.specs.declared.RuntimeState.{RuntimeState}
use Rattle.rules.specs.Admission.{holds_of, is_some}
use Rattle.rules.specs.Book.{Book, lease_at, active_at}
use Rattle.rules.specs.Interaction.{Interaction}
use Rattle.rules.specs.Rules.{select, refreshed, refresh_state, fallback, fallback_or_trip, due, fallback_if, expiries}
use Rattle.rules.specs.With.{with_state}
use Rattle.state.specs.Axes.{axes_from, first_or8, first_from}
use Rattle.state.specs.State.{lease_in, book_of, after_tick, tick_end, after_fallback_of, after_fallback, count_of, InBounds}
use Rattle.state.specs.Stores.{Takes, TakesWhere}
use Rattle.state.specs.declared.AfterFallback.TheVariants as AfterFallback
use Rattle.state.specs.declared.AfterTrip.TheVariants as AfterTrip
use Rattle.state.specs.declared.Course.{Course}
use Rattle.state.specs.declared.Falling.{Falling}
use Rattle.state.specs.declared.Fixed.{Fixed}
use Rattle.state.specs.declared.Numbers.{Numbers}
use Rattle.state.proofs.Axes.{axes-step, select-hit, select-miss, select-end, first-miss}
use Rattle.state.proofs.Courses.{leads-to, leads-from, sound-from, SameCounts, tripping}
use Rattle.state.proofs.Tables.{held_any}
use Rattle.decide_tick.specs.Ticks.{ShowsDue}

-- the lease or the order of an axis is over
abbrev pub is_over : ℕ → Book → ℕ → Bool
is_over time b axis = is_some (due time (lease_at b axis) (active_at b axis))

-- .. and with which reason it then falls back
abbrev over_reason : Bool → Reason
over_reason lease = cond lease LeaseExpired StreamExpired

reason-is : (l o : Bool) → is_some (cond l (Some LeaseExpired) (cond o (Some StreamExpired) None)) ≡ true
    → cond l (Some LeaseExpired) (cond o (Some StreamExpired) None) ≡ Some (over_reason l)
unfolding is_some
reason-is true o e = refl
reason-is false true e = refl
reason-is false false e = absurd (false≢true e)

module _ (time : ℕ) (b : Book) (next : Book → Interaction) where
  pub none-due : (over : List ℕ) → select (is_over time b) over ≡ [] → expiries over time b next ≡ next b
  unfolding select expiries fallback_if is_some
  none-due [] e = refl
  none-due (axis ∷ rest) e = go (due time (lease_at b axis) (active_at b axis)) e (none-due rest)
    where
      go : (d : Option Reason) → cond (is_some d) (axis ∷ select (is_over time b) rest) (select (is_over time b) rest) ≡ []
          → (select (is_over time b) rest ≡ [] → expiries rest time b next ≡ next b)
          → fallback_if d axis time b (λ b'. expiries rest time b' next) ≡ next b
      go None e k = k e
      go (Some r) e k = absurd (let z : ◌≡◌ {A = ℕ} 0 1 = cc in omega arith)

  skip_step : (i : ℕ) → i < 8 → is_over time b i ≡ false → expiries (axes_from i) time b next ≡ expiries (axes_from (i + 1)) time b next
  unfolding expiries fallback_if is_some
  skip_step i h e = rw (axes-step i h) (go (due time (lease_at b i) (active_at b i)) e)
    where
      go : (d : Option Reason) → is_some d ≡ false
          → fallback_if d i time b (λ b'. expiries (axes_from (i + 1)) time b' next) ≡ expiries (axes_from (i + 1)) time b next
      go None e = refl
      go (Some r) e = absurd (false≢true (sym e))

  abbrev falls_at : ℕ → Interaction
  falls_at i =
      fallback_or_trip i (over_reason (holds_of (lease_at b i) (λ l. leb l.expires_at time))) time b (λ b'. expiries (axes_from (i + 1)) time b' next)

  due-step : (i : ℕ) → i < 8 → is_over time b i ≡ true → expiries (axes_from i) time b next ≡ falls_at i
  unfolding expiries fallback_if due
  due-step i h e =
      rw (axes-step i h)
      (rw (reason-is (holds_of (lease_at b i) (λ l. leb l.expires_at time)) (holds_of (active_at b i) (λ a. leb a.expires_at time)) e))

  first-within : (n i r : ℕ) → 8 - i ≡ n → r ≡ first_or8 (select (is_over time b) (axes_from i)) → r < 8 → expiries (axes_from i) time b next ≡ falls_at r
  unfolding first_or8
  first-within zero i r e f h = absurd (omega (arith, rw (select-end (is_over time b) i (omega arith)) at f))
  first-within (suc n) i r e f h = test (is_over time b i) refl (λ g. first-within n (i + 1) r (omega arith) g h)
    where
      low : i < 8
      low = omega arith

      test : (t : Bool) → is_over time b i ≡ t
          → (r ≡ first_or8 (select (is_over time b) (axes_from (i + 1))) → expiries (axes_from (i + 1)) time b next ≡ falls_at r)
          → expiries (axes_from i) time b next ≡ falls_at r
      test true o rest = due-step i low o ∙ ap falls_at (sym (f ∙ ap first_or8 (select-hit (is_over time b) i low o)))
      test false o rest = skip_step i low o ∙ rest (f ∙ ap first_or8 (select-miss (is_over time b) i low o))

  first-due : (i r : ℕ) → r ≡ first_from (is_over time b) i → r < 8 → expiries (axes_from i) time b next ≡ falls_at r
  unfolding first_from
  first-due i r e h = first-within (8 - i) i r refl e h

-- courses ----------------------------------------------------------------------------------------------------------------

abbrev expiring : ℕ → Reason → ℕ → Falling
expiring axis reason time =
    record {
      time = time;
      axis = axis;
      at = axis;
      reason = reason;
      after = AfterFallback.Expiry;
      good = true;
      after_trip = AfterTrip.Expiry;
    }

-- the state as it is refreshed, by the number of leases
pub refreshes : (held : ℕ) (b : Book) (mode : RuntimeState) → mode ≡ refreshed (not (eqb held 0)) b.state → held ≡ count_of b.leases
    → refresh_state b ≡ with_state mode b
unfolding refresh_state
refreshes held b mode e k = rw (e, k, held_any b.leases)

module _ (f : Fixed) (n : Numbers) (time from axis : ℕ) (lease : LeaseSlot) {c : Course} where
  pub expires-so : (over : Bool) (reason : Reason) → over ≡ holds_of (lease_in lease) (λ l. leb l.expires_at time) → reason ≡ over_reason over → axis < 8
      → (InBounds (expiring axis reason time)
      → Takes f n c (λ b q. fallback axis reason time b (after_fallback (expiring axis reason time) b.capabilities q)))
      → TakesWhere f n c (ShowsDue time from axis lease) (λ b q. expiries (axes_from from) time b (tick_end q))
  unfolding book_of after_fallback_of fallback_or_trip
  expires-so over reason o e low k t q h s d =
      leads-to (rw (e, o, d.shown low) (sym (first-due time (book_of f n t) (tick_end q) from axis d.first low)))
      (k (record { axis = low; at = low }) t q h s)

  pub ends_so : (mode : RuntimeState) → mode ≡ refreshed (not (eqb n.held 0)) n.mode.state → 8 ≤ axis
      → Takes f (tripping mode n) c (λ b q. after_tick q b)
      → TakesWhere f n c (ShowsDue time from axis lease) (λ b q. expiries (axes_from from) time b (tick_end q))
  unfolding book_of with_state
  ends_so mode e high k t q h s d =
      let b = book_of f n t in
      let same : SameCounts n (tripping mode n) = (refl, refl, refl, refl) in
      leads-from same
      (sym (none-due time b (tick_end q) (axes_from from) (first-miss (is_over time b) from axis d.first high) ∙ ap (after_tick q) (refreshes n.held b mode e s.counted.held)))
      (k t q h (sound-from same s))

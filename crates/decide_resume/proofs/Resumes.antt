-- What follows a trip and a fallback, by the stored place. Assumes nothing.
use Prim.Native.Nat.{ℕ, ◌+◌, ◌<◌, ◌≤◌}
use mathlib.Core.Bool.{Bool, true, false, not}
use mathlib.Core.Path.{◌≡◌, refl}
use lib.Dec.{eqb}
use Rattle.model.specs.declared.LeaseSlot.{LeaseSlot}
use Rattle.model.specs.declared.Reason.TheVariants as Reason
use Rattle.model.specs.declared.RuntimeState.{RuntimeState}
use Rattle.rules.specs.Admission.{axes}
use Rattle.rules.specs.Interaction.{Done, Returned, Polled, Succeeded, Refused, Submitted}
use Rattle.rules.specs.Rules.{fallback, fallbacks, trip, staleness, expiries, preconditions, refreshed}
use Rattle.rules.specs.With.{with_last_tick, with_state}
use Rattle.state.specs.Axes.{up_from, axes_from, first_used}
use Rattle.state.specs.State.{Tables, book_of, after_tick, tick_end, flags_end, after_trip, after_fallback_of, after_fallback, InBounds}
use Rattle.state.specs.Stores.{Takes, TakesWhere}
use Rattle.state.specs.declared.AfterFallback.{AfterFallback}
use Rattle.state.specs.declared.AfterTrip.TheVariants as AfterTrip
use Rattle.state.specs.declared.Course.{Course}
use Rattle.state.specs.declared.Falling.{Falling}
use Rattle.state.specs.declared.Fixed.{Fixed}
use Rattle.state.specs.declared.Numbers.{Numbers}
use Rattle.state.proofs.Axes.{used-first, used-none}
use Rattle.state.proofs.Courses.{SameCounts, leads-to, leads-from, sound-from, tripping}
use Rattle.decide_tick.specs.Ticks.{ShowsDue}
use Rattle.decide_tick.proofs.Due.{refreshes}
use Rattle.decide_flags.specs.Flags.{ShowsForbidden}
use Rattle.decide_resume.specs.declared.Search.{Search}
use Rattle.decide_resume.specs.declared.Sought.TheVariants as Sought
use Rattle.decide_resume.specs.Searches.{ShowsSought, TripSeeks, SeeksAfter, Seeks, ShowsNext}

-- the search that was asked for
due-shown : (s : Search) (from time flags axis : ℕ) (lease : LeaseSlot) (t : Tables) → (s.sought ≡ Sought.Due) × (s.from ≡ from)
    → ShowsSought s.sought s.from time flags axis lease t → ShowsDue time from axis lease t
unfolding ShowsSought
due-shown s from time flags axis lease t k d = rw (k.0, k.1) at d

forbidden-shown : (s : Search) (from time flags axis : ℕ) (lease : LeaseSlot) (t : Tables) → (s.sought ≡ Sought.Forbidden) × (s.from ≡ from)
    → ShowsSought s.sought s.from time flags axis lease t → ShowsForbidden flags from axis t
unfolding ShowsSought
forbidden-shown s from time flags axis lease t k d = rw (k.0, k.1) at d

module _ (f : Fixed) (n : Numbers) (g : Falling) (axis : ℕ) (lease : LeaseSlot) (c : Course) where
  abbrev Shown : Search → Tables → Type 0
  Shown s t = ShowsSought s.sought s.from g.time n.flags axis lease t

  -- a trip -----------------------------------------------------------------------------------------------------------------

  abbrev pub AfterTripBy : Type 0
  AfterTripBy =
      (s : Search) → TripSeeks g.after_trip g.at s
      → TakesWhere f n c (Shown s) (λ b q. after_trip g.after_trip g.at g.time q b)

  pub trip-ticks : g.after_trip ≡ AfterTrip.Tick → Takes f n c (λ b q. after_tick q b) → AfterTripBy
  unfolding after_trip
  trip-ticks e k s seeks t q h sound shown = leads-to (rw e) (k t q h sound)

  pub trip-returns : g.after_trip ≡ AfterTrip.Return → Takes f n c (λ b q. Done b Returned) → AfterTripBy
  unfolding after_trip
  trip-returns e k s seeks t q h sound shown = leads-to (rw e) (k t q h sound)

  pub trip-polls : g.after_trip ≡ AfterTrip.Poll → Takes f n c (λ b q. Done b (Polled true)) → AfterTripBy
  unfolding after_trip
  trip-polls e k s seeks t q h sound shown = leads-to (rw e) (k t q h sound)

  pub trip-refuses : g.after_trip ≡ AfterTrip.Cancel → Takes f n c (λ b q. Done b (Refused Reason.Driver)) → AfterTripBy
  unfolding after_trip
  trip-refuses e k s seeks t q h sound shown = leads-to (rw e) (k t q h sound)

  pub trip-submits : g.after_trip ≡ AfterTrip.Submit → Takes f n c (λ b q. Done b (Submitted q.submitted)) → AfterTripBy
  unfolding after_trip
  trip-submits e k s seeks t q h sound shown = leads-to (rw e) (k t q h sound)

  pub trip-watches : g.after_trip ≡ AfterTrip.Watchdog
      → TakesWhere f n c (ShowsDue g.time 0 axis lease) (λ b q. staleness g.time (with_last_tick g.time b) (λ b'. expiries axes g.time b' (tick_end q)))
      → AfterTripBy
  unfolding after_trip TripSeeks
  trip-watches e k s seeks t q h sound shown =
      leads-to (rw e) (k t q h sound (due-shown s 0 g.time n.flags axis lease t (rw e at seeks) shown))

  pub trip-stale : g.after_trip ≡ AfterTrip.Stale
      → TakesWhere f n c (ShowsDue g.time 0 axis lease) (λ b q. expiries (axes_from 0) g.time b (tick_end q)) → AfterTripBy
  unfolding after_trip TripSeeks axes_from up_from
  trip-stale e k s seeks t q h sound shown =
      leads-to (rw e) (k t q h sound (due-shown s 0 g.time n.flags axis lease t (rw e at seeks) shown))

  pub trip-expires : g.after_trip ≡ AfterTrip.Expiry
      → TakesWhere f n c (ShowsDue g.time (g.at + 1) axis lease) (λ b q. expiries (axes_from (g.at + 1)) g.time b (tick_end q)) → AfterTripBy
  unfolding after_trip TripSeeks
  trip-expires e k s seeks t q h sound shown =
      leads-to (rw e) (k t q h sound (due-shown s (g.at + 1) g.time n.flags axis lease t (rw e at seeks) shown))

  pub trip-forbids : g.after_trip ≡ AfterTrip.Precondition
      → TakesWhere f n c (ShowsForbidden n.flags (g.at + 1) axis) (λ b q. preconditions (axes_from (g.at + 1)) g.time b flags_end) → AfterTripBy
  unfolding after_trip TripSeeks
  trip-forbids e k s seeks t q h sound shown =
      leads-to (rw e) (k t q h sound (forbidden-shown s (g.at + 1) g.time n.flags axis lease t (rw e at seeks) shown))

  -- a fallback -------------------------------------------------------------------------------------------------------------

  abbrev pub next_at : ℕ → Falling
  next_at at =
      record { time = g.time; axis = at; at = g.at; reason = g.reason; after = g.after; good = g.good; after_trip = g.after_trip }

  abbrev pub TripsOn : Type 0
  TripsOn =
      (s : Search) (ok : Bool) → TripSeeks g.after_trip g.at s
      → TakesWhere f n c (Shown s) (λ b q. after_fallback_of AfterFallback.Trip g b.capabilities q ok b)

  -- the next used axis of a trip
  pub trip-falls : InBounds g → g.after ≡ AfterFallback.Trip → (next : ℕ) → next ≡ first_used f.used (g.axis + 1) → next < 8
      → (InBounds (next_at next)
      → Takes f n c (λ b q. fallback next g.reason g.time b (after_fallback (next_at next) b.capabilities q)))
      → TripsOn
  unfolding after_fallback_of fallbacks book_of
  trip-falls inside e next first low k s ok seeks t q h sound shown =
      leads-to (rw (e, used-first sound.checked (g.axis + 1) next first low)) (k (record { axis = low; at = inside.at }) t q h sound)

  -- past the last
  pub trip-ends : (next : ℕ) → next ≡ first_used f.used (g.axis + 1) → 8 ≤ next → AfterTripBy → TripsOn
  unfolding after_fallback_of fallbacks book_of
  trip-ends next first high k s ok seeks t q h sound shown =
      leads-to (rw (used-none sound.checked (g.axis + 1) next first high)) (k s seeks t q h sound shown)

  abbrev pub Resumes : AfterFallback → Bool → Type 0
  Resumes after ok =
      (s : Search) → Seeks g s → g.after ≡ after → TakesWhere f n c (Shown s) (λ b q. after_fallback_of after g b.capabilities q ok b)

  pub expires-on : (ok : Bool) → ok ≡ true
      → TakesWhere f n c (ShowsDue g.time (g.axis + 1) axis lease) (λ b q. expiries (axes_from (g.axis + 1)) g.time b (tick_end q))
      → Resumes AfterFallback.Expiry ok
  unfolding after_fallback_of SeeksAfter
  expires-on ok e k s seeks p t q h sound shown =
      leads-to (rw e) (k t q h sound (due-shown s _ _ _ axis lease t (rw p at seeks) shown))

  pub expiry-trips : (ok : Bool) → ok ≡ false → Takes f n c (λ b q. trip Reason.Driver g.time b (after_trip AfterTrip.Expiry g.axis g.time q))
      → Resumes AfterFallback.Expiry ok
  unfolding after_fallback_of after_trip
  expiry-trips ok e k s seeks p t q h sound shown = leads-to (rw e) (k t q h sound)

  pub forbids-on : (ok : Bool) → ok ≡ true
      → TakesWhere f n c (ShowsForbidden n.flags (g.axis + 1) axis) (λ b q. preconditions (axes_from (g.axis + 1)) g.time b flags_end)
      → Resumes AfterFallback.Precondition ok
  unfolding after_fallback_of SeeksAfter
  forbids-on ok e k s seeks p t q h sound shown =
      leads-to (rw e) (k t q h sound (forbidden-shown s _ _ _ axis lease t (rw p at seeks) shown))

  pub precondition-trips : (ok : Bool) → ok ≡ false
      → Takes f n c (λ b q. trip Reason.Driver g.time b (after_trip AfterTrip.Precondition g.axis g.time q))
      → Resumes AfterFallback.Precondition ok
  unfolding after_fallback_of after_trip
  precondition-trips ok e k s seeks p t q h sound shown = leads-to (rw e) (k t q h sound)

  -- by what follows it
  abbrev pub Resumed : Bool → Type 0
  Resumed ok = TakesWhere f n c (ShowsNext g n.flags axis lease) (λ b q. after_fallback g b.capabilities q ok b)

  pub resumes-trip : (ok : Bool) → g.after ≡ AfterFallback.Trip → TripsOn → Resumed ok
  unfolding SeeksAfter
  resumes-trip ok e k t q h sound next = leads-to (rw e) (k next.search ok (rw e at next.seeks) t q h sound next.shown)

  pub resumes-by : (after : AfterFallback) (ok : Bool) → g.after ≡ after → Resumes after ok → Resumed ok
  resumes-by after ok e k t q h sound next = leads-to (rw e) (k next.search next.seeks e t q h sound next.shown)

  pub resumes-at-once : (after : AfterFallback) (ok : Bool) → g.after ≡ after → Takes f n c (λ b q. after_fallback_of after g b.capabilities q ok b) → Resumed ok
  resumes-at-once after ok e k t q h sound next = leads-to (rw e) (k t q h sound)

module _ (f : Fixed) (n : Numbers) (g : Falling) (c : Course) where
  -- the end of a cancel
  pub cancels : (ok : Bool) (state : RuntimeState) → ok ≡ true → state ≡ refreshed (not (eqb n.held 0)) n.mode.state
      → Takes f (tripping state n) c (λ b q. Done b Succeeded)
      → Takes f n c (λ b q. after_fallback_of AfterFallback.Cancel g b.capabilities q ok b)
  unfolding after_fallback_of book_of with_state
  cancels ok state e r k t q h sound =
      let same : SameCounts n (tripping state n) = (refl, refl, refl, refl) in
      leads-from same (rw (e, refreshes n.held (book_of f n t) state r sound.counted.held)) (k t q h (sound-from same sound))

  pub cancel-trips : (ok : Bool) → ok ≡ false → Takes f n c (λ b q. trip Reason.Driver g.time b (after_trip AfterTrip.Cancel 0 g.time q))
      → Takes f n c (λ b q. after_fallback_of AfterFallback.Cancel g b.capabilities q ok b)
  unfolding after_fallback_of after_trip
  cancel-trips ok e k t q h sound = leads-to (rw e) (k t q h sound)

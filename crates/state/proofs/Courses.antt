-- Where a course leads: to an answer, to what follows the opening tick, to a fallback and to a trip. Assumes nothing.
use Prim.Native.Nat.{ℕ, ◌+◌, ◌<◌}
use mathlib.Core.Bool.{true}
use mathlib.Core.List.{◌∷◌}
use mathlib.Core.Path.{◌≡◌, refl, sym, subst}
use Rattle.model.specs.declared.Reason.{Reason}
use Rattle.model.specs.declared.Reason.TheVariants.{Ok}
use Rattle.model.specs.declared.RuntimeState.{RuntimeState}
use Rattle.rules.specs.Book.{Book}
use Rattle.rules.specs.Interaction.{Interaction, Done, Returned, Polled, Succeeded, Refused, Submitted}
use Rattle.rules.specs.Protocol.{proceed}
use Rattle.rules.specs.Receipts.{bump}
use Rattle.rules.specs.Rules.{bump_epoch, cleared, fallback, used_axes, fallbacks, tripped, trip}
use Rattle.rules.specs.With.{with_leases, with_active, with_epoch, with_state}
use Rattle.state.specs.declared.AfterFallback.TheVariants as AfterFallback
use Rattle.state.specs.declared.AfterTrip.{AfterTrip}
use Rattle.state.specs.declared.Answer.{Answer}
use Rattle.state.specs.declared.Course.{Course}
use Rattle.state.specs.declared.Falling.{Falling}
use Rattle.state.specs.declared.Fixed.{Fixed}
use Rattle.state.specs.declared.Numbers.{Numbers}
use Rattle.state.specs.declared.Way.{Way}
use Rattle.state.specs.declared.Way.TheVariants.{Falls, Ends, GoesOn}
use Rattle.state.specs.Axes.{up_from, axes_from, used_from, first_used}
use Rattle.state.specs.State.{Tables, Asked, Hand, State, state, book_of, after_tick, after_trip, after_fallback_of, after_fallback, after_fell_back, answered_at, item_at, phase_at, phase_of, output_of, reaction_of, InBounds, Sound}
use Rattle.state.specs.Stores.{course_of, fallen, ended, Settles, Reaches, Leads, Takes}
use Rattle.state.proofs.Axes.{used-first, used-some}

-- a course leads to what is the same
pub leads-to : {c : Course} {s : State} {i j : Interaction} → i ≡ j → Leads c s i → Leads c s j
leads-to {c} {s} e l = subst (λ (k : Interaction). Leads c s k) e l

-- a course takes the counters of receipts and leases, the number of leases and `soonest` from the state, and nothing else of the numbers
abbrev pub SameCounts : Numbers → Numbers → Type 0
SameCounts n n' =
    (n'.next_receipt ≡ n.next_receipt) × (n'.next_lease ≡ n.next_lease) × (n'.held ≡ n.held) × (n'.soonest ≡ n.soonest)

reaches-from : (f : Fixed) (n n' : Numbers) (t : Tables) (q : Asked) (h : Hand) (w : Way) (c : Course) (i : Interaction) → SameCounts n n'
    → Reaches w c (state f n' t q h) i → Reaches w c (state f n t q h) i
unfolding Reaches fallen ended
reaches-from f n n' t q h Falls c i same e = rw (same.0, same.1, same.2, same.3) at e
reaches-from f n n' t q h Ends c i same e = rw (same.0, same.1, same.2, same.3) at e
reaches-from f n n' t q h GoesOn c i same e = rw (same.0, same.1, same.2, same.3) at e

module _ {f : Fixed} {n n' : Numbers} {t : Tables} {q : Asked} {h : Hand} (same : SameCounts n n') where
  pub sound-from : Sound (state f n t q h) → Sound (state f n' t q h)
  sound-from s =
      record {
        checked = s.checked;
        sized = s.sized;
        counted = rw (same.2, same.3) s.counted;
        falling = s.falling;
        order = s.order;
      }

  -- where the rule says the same of the numbers altered, a course from them is one from those before
  pub leads-from : {c : Course} {i j : Interaction} → i ≡ j → Leads c (state f n' t q h) i → Leads c (state f n t q h) j
  leads-from {c} {i} e l = leads-to e (record { falling = l.falling; reaches = reaches-from f n n' t q h c.way c i same l.reaches })

-- answers ----------------------------------------------------------------------------------------------------------------

-- what every course of this kind does
abbrev pub Ended : Numbers → Falling → Course → (Book → Asked → Interaction) → Type 0
Ended n g c rule = Settles c × ((f : Fixed) → InBounds g → Takes f n c rule)

module _ (n : Numbers) (g : Falling) {c : Course} where
  ended_so : (d : Course) → c ≡ d → (rule : Book → Asked → Interaction) → Ended n g d rule → Ended n g c rule
  ended_so d e rule k = subst (λ (x : Course). Ended n g x rule) (sym e) k

  pub returns-so : c ≡ course_of n g Ends Answer.Returned Ok → Ended n g c (λ b q. Done b Returned)
  unfolding Reaches reaction_of output_of phase_of phase_at ended book_of proceed
  returns-so e =
      ended_so (course_of n g Ends Answer.Returned Ok) e (λ b q. Done b Returned) (refl, λ f inside t q h s. record { falling = inside; reaches = refl })

  pub raises-so : c ≡ course_of n g Ends Answer.Raised Ok → Ended n g c (λ b q. Done b (Polled true))
  unfolding Reaches reaction_of output_of phase_of phase_at ended book_of proceed
  raises-so e =
      ended_so (course_of n g Ends Answer.Raised Ok) e (λ b q. Done b (Polled true)) (refl, λ f inside t q h s. record { falling = inside; reaches = refl })

  pub succeeds-so : c ≡ course_of n g Ends Answer.Succeeded Ok → Ended n g c (λ b q. Done b Succeeded)
  unfolding Reaches reaction_of output_of phase_of phase_at ended book_of proceed
  succeeds-so e =
      ended_so (course_of n g Ends Answer.Succeeded Ok) e (λ b q. Done b Succeeded) (refl, λ f inside t q h s. record { falling = inside; reaches = refl })

  pub refuses-so : (reason : Reason) → c ≡ course_of n g Ends Answer.Refused reason → Ended n g c (λ b q. Done b (Refused reason))
  unfolding Reaches reaction_of output_of phase_of phase_at ended book_of proceed
  refuses-so reason e =
      ended_so (course_of n g Ends Answer.Refused reason) e (λ b q. Done b (Refused reason)) (refl, λ f inside t q h s. record { falling = inside; reaches = refl })

  pub submits-so : c ≡ course_of n g Ends Answer.Submitted Ok → Ended n g c (λ b q. Done b (Submitted q.submitted))
  unfolding Reaches reaction_of output_of answered_at phase_of phase_at ended book_of proceed
  submits-so e =
      ended_so (course_of n g Ends Answer.Submitted Ok) e (λ b q. Done b (Submitted q.submitted)) (refl, λ f inside t q h s. record { falling = inside; reaches = refl })

  pub goes-on-so : c ≡ course_of n g GoesOn Answer.Item Ok → (f : Fixed) → InBounds g → Takes f n c (λ b q. after_tick q b)
  unfolding Reaches ended book_of
  goes-on-so e f inside =
      subst (λ (x : Course). Takes f n x (λ b q. after_tick q b)) (sym e) (λ t q h s. record { falling = inside; reaches = refl })

-- a fallback -------------------------------------------------------------------------------------------------------------

abbrev pub bumped : ℕ → Numbers → Numbers
bumped epoch n =
    record {
      next_receipt = n.next_receipt;
      next_lease = n.next_lease;
      epoch = epoch;
      state_at = n.state_at;
      last_tick = n.last_tick;
      flags = n.flags;
      estop_seen = n.estop_seen;
      invalid_count = n.invalid_count;
      mode = n.mode;
      held = n.held;
      soonest = n.soonest;
    }

pub falls-so : (n : Numbers) (g : Falling) {c : Course} (epoch : ℕ) → epoch ≡ bump n.epoch
    → c ≡ course_of (bumped epoch n) g Falls Answer.Item Ok
    → Ended n g c (λ b q. fallback g.axis g.reason g.time b (after_fallback g b.capabilities q))
unfolding Reaches reaction_of output_of item_at phase_of phase_at fallen book_of proceed fallback cleared bump_epoch with_leases with_active with_epoch after_fell_back
falls-so n g epoch p e =
    ended_so n g (course_of (bumped epoch n) g Falls Answer.Item Ok) e
    (λ b q. fallback g.axis g.reason g.time b (after_fallback g b.capabilities q))
    (refl, λ f inside t q h s. record { falling = inside; reaches = rw p })

-- a trip begins with the first used axis
pub trips-first : (reason : Reason) (time : ℕ) (b : Book) (axis : ℕ) (next : Book → Interaction)
    → used_from b.capabilities 0 ≡ axis ∷ used_from b.capabilities (axis + 1)
    → trip reason time b next
    ≡ fallback axis reason time (with_state (tripped reason b.state) b) (λ ok b'. fallbacks (used_from b.capabilities (axis + 1)) reason time b' next)
unfolding trip fallbacks used_axes used_from axes_from up_from
trips-first reason time b axis next e = rw e

abbrev pub tripping : RuntimeState → Numbers → Numbers
tripping state n =
    record {
      next_receipt = n.next_receipt;
      next_lease = n.next_lease;
      epoch = n.epoch;
      state_at = n.state_at;
      last_tick = n.last_tick;
      flags = n.flags;
      estop_seen = n.estop_seen;
      invalid_count = n.invalid_count;
      mode = record { state = state };
      held = n.held;
      soonest = n.soonest;
    }

abbrev pub tripping_at : ℕ → Reason → ℕ → AfterTrip → ℕ → Falling
tripping_at axis reason time after at =
    record { time = time; axis = axis; at = at; reason = reason; after = AfterFallback.Trip; good = true; after_trip = after }

pub trips-so : (f : Fixed) (n : Numbers) (reason : Reason) (time : ℕ) (after : AfterTrip) (at : ℕ) {c : Course} (mode : RuntimeState) (axis : ℕ)
    → mode ≡ tripped reason n.mode.state → axis ≡ first_used f.used 0
    → (InBounds (tripping_at axis reason time after at)
    → Takes f (tripping mode n) c
    (λ b q. fallback axis reason time b (after_fallback (tripping_at axis reason time after at) b.capabilities q)))
    → at < 8 → Takes f n c (λ b q. trip reason time b (after_trip after at time q))
unfolding Reaches reaction_of phase_of fallen ended book_of after_fallback_of with_state
trips-so f n reason time after at mode axis p e k low t q h s =
    let inside : InBounds (tripping_at axis reason time after at) = record { axis = rw e (used-some s.checked); at = low } in
    let first = used-first s.checked 0 axis e inside.axis in
    let same : SameCounts n (tripping mode n) = (refl, refl, refl, refl) in
    leads-from same (rw p (sym (trips-first reason time (book_of f n t) axis (after_trip after at time q) first))) (k inside t q h (sound-from same s))

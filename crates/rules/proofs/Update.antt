-- `update_state` keeps the invariant. Its tick falls back for no reason that shows the flags to be in force; where it trips for Clock the
-- call returns at once, else its flags are set, and come into force with the next fallback or the end. Assumes nothing.
use Prim.Native.Nat.{ℕ, ◌+◌}
use mathlib.Core.Bool.{Bool, true, false, cond, not, ◌||◌}
use mathlib.Core.List.{List, [], ◌∷◌}
use mathlib.Core.Logic.{◌⊎◌, inl, inr}
use Rattle.std.specs.Prelude.{Some}
use mathlib.Core.Path.{◌≡◌, refl, sym, ◌∙◌}
use native.Mathlib.Omega.{arith}
use borrow.Author.Tests.{eqb-true, le-ltb}
use lib.Dec.{eqb, ltb}
use Rattle.model.specs.declared.Reason.{Reason}
use Rattle.model.specs.Reasons.{number}
use Rattle.model.specs.Words.{permits}
use Rattle.rules.specs.Book.{Book, active_at}
use Rattle.rules.specs.With.{with_leases, with_active, with_receipts, with_next_receipt, with_epoch, with_flags, with_state_at, with_last_tick, with_state}
use Rattle.rules.specs.Receipts.{kept, numbered}
use Rattle.rules.specs.Interaction.{Returned, Interaction, Done}
use Rattle.rules.specs.Admission.{holds_of, axes}
use Rattle.rules.specs.Rules.{bump_epoch, refresh_state, cleared, trip, fallback_or_trip, exhausted, supervise, tick, preconditions, meets_estop, flagged, new_flags, sense, update_state}
use Rattle.rules.specs.Protocol.{UpdateState, ItemFallback, Start}
use Rattle.rules.specs.Log.{Took, Handed, Ended, Log, call_of}
use Rattle.rules.specs.Epoch.{seen_raise, stops, falls_for, clock_tripped, in_force, updated, flags_of, bumps}
use Rattle.rules.proofs.Axes.{some-used}
use Rattle.rules.proofs.Safe.{Safe}
use Rattle.rules.proofs.Keeps.{Shared, Unflagged, keeps-trip-from, keeps-fallback-or-trip, keeps-tick-on}
use Rattle.rules.proofs.Epochs.{EpochsAs, bumped, epochs-still, epochs-new}
use Rattle.rules.proofs.Invariant.{InvBook, I, inv-replied, inv-took, inv-ended, inv-recorded, inv-fallen}
use Rattle.rules.proofs.Within.{End, InHand, in-hand, inv-ends}

module _ (s : Start) (flags now : ℕ) where
  -- ---- its tick

  -- before the flags are set; `late` says whether its time is before the last tick
  abbrev Sensing : Bool → Log → Book → Type 0
  Sensing late l b = I s l b × (call_of l ≡ Some (UpdateState flags now)) × (clock_tripped l ≡ late) × (ltb now b.last_tick ≡ late)

  -- a fallback for this reason keeps that
  abbrev Silent : Bool → Reason → Type 0
  Silent late reason = ((eqb (number reason) (number Reason.Clock) || late) ≡ late) × Unflagged reason

  sensing : (late : Bool) → Shared (Silent late) (I s) (Sensing late)
  unfolding call_of stops in_force falls_for clock_tripped numbered cleared bump_epoch with_epoch with_leases with_active kept with_next_receipt with_receipts with_state
  sensing late =
      record {
        waits = λ l b h. h.0;
        replied = λ r l b h. (inv-replied s l b h.0 r, h.1, h.2, h.3);
        falls = λ axis reason l b q h. (
          inv-fallen s axis reason _ l b h.1 h.0.0 (epochs-still s (Handed (ItemFallback axis reason)) l b refl q.1 h.0.2),
          h.1,
          rw h.2 q.0,
          h.3,
        );
        records = λ r l b quiet h. (inv-recorded s (numbered b.next_receipt r) l b quiet refl h.0, h.1, h.2, h.3);
        trips = λ reason l b h. h;
      }

  -- the first item of the trip for Clock
  late-first : (axis : ℕ) (l : Log) (b : Book) → I s l b → call_of l ≡ Some (UpdateState flags now) → ltb now b.last_tick ≡ true
      → Sensing true (Handed (ItemFallback axis Reason.Clock) ∷ l) (cleared axis b)
  unfolding call_of stops in_force falls_for clock_tripped cleared bump_epoch with_epoch with_leases with_active
  late-first axis l b h call late =
      (inv-fallen s axis Reason.Clock _ l b call h.0 (epochs-still s (Handed (ItemFallback axis Reason.Clock)) l b refl refl h.2), call, refl, late)

  -- ---- its flags are set

  -- but not in force
  abbrev Set : Log → Book → Type 0
  Set l b =
      InvBook s l b × EpochsAs flags (bumps s l + 1) l b × (call_of l ≡ Some (UpdateState flags now)) × (clock_tripped l ≡ false)
      × (eqb flags (flags_of s l) ≡ false)

  abbrev Taken : Log → Book → Type 0
  Taken l b = InHand s (UpdateState flags now) l b

  set-fallen : (axis : ℕ) (reason : Reason) (l : Log) (b : Book) → in_force (Handed (ItemFallback axis reason)) l ≡ true → Set l b
      → Taken (Handed (ItemFallback axis reason) ∷ l) (cleared axis b)
  unfolding call_of stops updated
  set-fallen axis reason l b on h =
      let e = epochs-new s (Handed (ItemFallback axis reason)) l b refl flags now on h.2 h.4 h.1 in
      (inv-fallen s axis reason _ l b h.2 h.0 e, (h.2, sym h.1.in-force ∙ e.in-force))

  either-fallen : (axis : ℕ) (l : Log) (b : Book) → Set l b ⊎ Taken l b → Taken (Handed (ItemFallback axis Reason.Precondition) ∷ l) (cleared axis b)
  unfolding in_force falls_for
  either-fallen axis l b (inl h) = set-fallen axis Reason.Precondition l b refl h
  either-fallen axis l b (inr h) = (in-hand s (UpdateState flags now)).falls axis Reason.Precondition l b tt h

  either-ends : (l : Log) (b : Book) → Set l b ⊎ Taken l b → Safe (I s) (End s) l (Done b Returned)
  unfolding stops in_force
  either-ends l b (inl h) = inv-ended s Returned l b tt h.0 (epochs-new s (Ended Returned) l b refl flags now (rw h.3) h.2 h.4 h.1)
  either-ends l b (inr h) = inv-ends s (UpdateState flags now) Returned l b tt h

  inv-preconditions : (is : List ℕ) (l : Log) (b : Book) → Set l b ⊎ Taken l b
      → Safe (I s) (End s) l (preconditions is now b (λ b'. Done (refresh_state b') Returned))
  unfolding preconditions refresh_state with_state
  inv-preconditions [] l b h = either-ends l b h
  inv-preconditions (axis ∷ is) l b h =
      go (holds_of (active_at b axis) (λ a. not (permits a.capability b.flags))) (λ l' b' h'. inv-preconditions is l' b' h')
    where
      rest : Book → Interaction
      rest b' = preconditions is now b' (λ b''. Done (refresh_state b'') Returned)

      go : (t : Bool) → ((l' : Log) (b' : Book) → Set l' b' ⊎ Taken l' b' → Safe (I s) (End s) l' (rest b'))
          → Safe (I s) (End s) l (cond t (fallback_or_trip axis Reason.Precondition now b rest) (rest b))
      go true f =
          keeps-fallback-or-trip (End s) (in-hand s (UpdateState flags now)) axis Reason.Precondition now l b rest tt (either-fallen axis l b h)
          (λ l' b' h'. f l' b' (inr h'))
      go false f = f l b h

  -- the stop's trip finds a used axis
  inv-flags-stop : (l : Log) (b : Book) → Set l b → Safe (I s) (End s) l (trip Reason.Estop now b (λ b'. Done b' Returned))
  unfolding in_force falls_for with_state
  inv-flags-stop l b h =
      let u = some-used s h.0.sound in
      keeps-trip-from (End s) (in-hand s (UpdateState flags now)) Reason.Estop now _ tt (λ l' b' h'. inv-ends s (UpdateState flags now) Returned l' b' tt h')
      u.0 u.1 l b (rw h.0.capabilities u.2) (set-fallen u.0 Reason.Estop l _ refl h)

  inv-flagged : (l : Log) (b : Book) → Sensing false l b → eqb flags b.flags ≡ false → Set l (flagged flags b)
  unfolding flagged with_flags bump_epoch with_epoch
  inv-flagged l b h new = (h.0.0, bumped flags flags refl h.0.2, h.1, h.2, rw h.0.2.in-force at new)

  inv-new-flags : (l : Log) (b : Book) → Sensing false l b → eqb flags b.flags ≡ false → Safe (I s) (End s) l (new_flags flags now b)
  unfolding new_flags
  inv-new-flags l b h new = go (meets_estop flags b.config) (inv-flagged l b h new)
    where
      go : (t : Bool) → Set l (flagged flags b) → Safe (I s) (End s) l
          (cond t (trip Reason.Estop now (flagged flags b) (λ b'. Done b' Returned))
          (preconditions axes now (flagged flags b) (λ b'. Done (refresh_state b') Returned)))
      go true set = inv-flags-stop l _ set
      go false set = inv-preconditions axes l _ (inl set)

  -- ---- the call

  inv-sense : (late : Bool) (l : Log) (b : Book) → Sensing late l b → Safe (I s) (End s) l (sense flags now b)
  unfolding sense stops in_force updated with_state_at
  inv-sense true l b h = rw h.3 (inv-ended s Returned l b tt h.0.0 (epochs-still s (Ended Returned) l b refl (rw h.2) h.0.2))
  inv-sense false l b h = rw h.3 (go (eqb flags b.flags) refl)
    where
      go : (t : Bool) → eqb flags b.flags ≡ t
          → Safe (I s) (End s) l (cond t (Done (with_state_at now b) Returned) (new_flags flags now (with_state_at now b)))
      go true e = inv-ends s (UpdateState flags now) Returned l b tt (h.0, (h.1, eqb-true _ _ e ∙ h.0.2.in-force))
      go false e = inv-new-flags l (with_state_at now b) h e

  pub inv-update : (l : Log) (b : Book) → I s l b → Safe (I s) (End s) (Took (UpdateState flags now) ∷ l) (update_state flags now b)
  unfolding update_state tick call_of stops seen_raise clock_tripped with_last_tick with_state
  inv-update l b h = go (ltb now b.last_tick) refl
    where
      l₁ : Log
      l₁ = Took (UpdateState flags now) ∷ l

      h₁ : I s l₁ b
      h₁ = inv-took s (UpdateState flags now) l b refl refl h

      go : (t : Bool) → ltb now b.last_tick ≡ t → Safe (I s) (End s) l₁
          (cond t (trip Reason.Clock now b (sense flags now))
          (cond (exhausted b) (trip Reason.Faulted now b (sense flags now)) (supervise now b (sense flags now))))
      go true e =
          let u = some-used s h.0.sound in
          keeps-trip-from (End s) (sensing true) Reason.Clock now (sense flags now) (refl, refl) (inv-sense true) u.0 u.1 l₁ b
          (rw h.0.capabilities u.2)
          (late-first u.0 l₁ _ h₁ refl e)
      go false e =
          keeps-tick-on (End s) (sensing false) (λ reason q. (rw q.0, q.1)) (λ x l' b' h'. h')
          (λ l' b' h'. h'.0.0.leasing.fits) now
          (λ l' b' h'. (h'.0, h'.1, h'.2, le-ltb now now (omega arith))) (sense flags now)
          (λ l' b' h' settled. inv-sense false l' b' h') l₁ b (h₁, refl, refl, e)

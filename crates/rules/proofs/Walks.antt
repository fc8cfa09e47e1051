-- The calls that never execute, for every invariant that their steps keep: as Keeps, for one that may speak of the state. (`keeps-tick` wants
-- an invariant that holds in any state.) Assumes nothing.
use Prim.Native.Nat.{ℕ, ◌-◌}
use mathlib.Core.Bool.{Bool, true, false, cond, not, ◌&&◌, ◌||◌}
use mathlib.Core.List.{List, [], ◌∷◌}
use Rattle.std.specs.Prelude.{Option, Some, None}
use lib.Dec.{ltb, leb, eqb}
use Rattle.model.specs.declared.Reason.{Reason}
use Rattle.model.specs.declared.Receipt.{Receipt}
use Rattle.model.specs.declared.Submission.{Submission}
use Rattle.model.specs.Words.{permits}
use Rattle.rules.specs.Book.{Book, lease_at, active_at}
use Rattle.rules.specs.With.{with_flags, with_state_at, with_last_tick, with_state, with_invalid_count, with_estop_seen}
use Rattle.rules.specs.Receipts.{kept}
use Rattle.rules.specs.Interaction.{Answer, Returned, Polled, Succeeded, Leased, Refused, Submitted, Interaction, Done}
use Rattle.rules.specs.Admission.{holds_of, is_armed, is_stale, axes}
use Rattle.rules.specs.Rules.{used_axes, bump_epoch, record_receipt, refresh_state, cleared, fallback, tripped, trip, fallback_or_trip, exhausted, watchdog, staleness, due, fallback_if, expiries, supervise, tick, preconditions, meets_estop, flagged, new_flags, sense, masked, emergency_stop, poll_estop, recovered, recoveries, recover, storm, reject}
use Rattle.rules.specs.Protocol.{Reply, Recorded, ItemFallback, ItemRecord}
use Rattle.rules.specs.Log.{Replied, Handed, Log}
use Rattle.rules.proofs.Safe.{Safe}
use Rattle.rules.proofs.Keeps.{Shared, AnyReason, keeps-fallback, keeps-trip, keeps-fallback-or-trip}

-- any answer but a success
abbrev pub Other : Answer → Type 0
Other Returned = Unit
Other (Polled new) = Unit
Other Succeeded = ⊥
Other (Leased l) = Unit
Other (Refused reason) = Unit
Other (Submitted r) = Unit

-- the steps on log and book that these calls are made of keep `J`, and it gives what is to hold at a wait and at an end
pub record Kept (W : Log → Book → Type 0) (D : Log → Book → Answer → Type 0) (J : Log → Book → Type 0) : Type 0 where
  pub waits : (l : Log) (b : Book) → J l b → W l b
  pub ends : (l : Log) (b : Book) (a : Answer) → Other a → J l b → D l b a
  pub replied : (r : Reply) (l : Log) (b : Book) → J l b → J (Replied r ∷ l) b
  pub falls : (axis : ℕ) (reason : Reason) (l : Log) (b : Book) → J l b → J (Handed (ItemFallback axis reason) ∷ l) (cleared axis b)
  pub records : (r : Receipt) (l : Log) (b : Book) → J l b → J (Handed (ItemRecord r) ∷ l) (kept r b)
  pub trips : (reason : Reason) (l : Log) (b : Book) → J l b → J l (with_state (tripped reason b.state) b)
  pub refreshes : (l : Log) (b : Book) → J l b → J l (refresh_state b)
  pub ticks : (now : ℕ) (l : Log) (b : Book) → J l b → J l (with_last_tick now b)
  pub stamps : (now : ℕ) (l : Log) (b : Book) → J l b → J l (with_state_at now b)
  pub flags : (x : ℕ) (l : Log) (b : Book) → J l b → J l (with_flags x b)
  pub bumps : (l : Log) (b : Book) → J l b → J l (bump_epoch b)
  pub sees : (raised : ℕ) (l : Log) (b : Book) → J l b → J l (with_estop_seen raised b)
  pub counts : (n : ℕ) (l : Log) (b : Book) → J l b → J l (with_invalid_count n b)

module _ (W : Log → Book → Type 0) (D : Log → Book → Answer → Type 0) (J : Log → Book → Type 0) (k : Kept W D J) where
  abbrev Next : (Book → Interaction) → Type 0
  Next next = (l : Log) (b : Book) → J l b → Safe W D l (next b)

  shared : Shared AnyReason W J
  shared =
      record {
        waits = k.waits;
        replied = k.replied;
        falls = λ axis reason l b any h. k.falls axis reason l b h;
        records = λ r l b quiet h. k.records _ l b h;
        trips = k.trips;
      }

  -- any receipt, a grant's too
  pub walk-record : (r : Receipt) (l : Log) (b : Book) (next : Receipt → Book → Interaction) → J l b → ((r' : Receipt) → Next (next r'))
      → Safe W D l (record_receipt r b next)
  unfolding record_receipt
  walk-record r l b next h f =
      let h₁ = k.records _ l b h in
      (k.waits _ _ h₁, f _ _ _ (k.replied Recorded _ _ h₁))

  pub walk-fallback : (axis : ℕ) (reason : Reason) (now : ℕ) (l : Log) (b : Book) (next : Bool → Book → Interaction) → J l b
      → ((ok : Bool) → Next (next ok)) → Safe W D l (fallback axis reason now b next)
  walk-fallback axis reason now l b next h f = keeps-fallback D shared axis reason now l b next tt h f

  pub walk-trip : (reason : Reason) (now : ℕ) (l : Log) (b : Book) (next : Book → Interaction) → J l b → Next next
      → Safe W D l (trip reason now b next)
  walk-trip reason now l b next h f = keeps-trip D shared reason now next tt f l b h

  fall-or-trip : (axis : ℕ) (reason : Reason) (now : ℕ) (l : Log) (b : Book) (next : Book → Interaction) → J l b → Next next
      → Safe W D l (fallback_or_trip axis reason now b next)
  fall-or-trip axis reason now l b next h f =
      keeps-fallback-or-trip D shared axis reason now l b next tt (k.falls axis reason l b h) f

  trip-if : (t : Bool) (reason : Reason) (now : ℕ) (l : Log) (b : Book) (next : Book → Interaction) → J l b → Next next
      → Safe W D l (cond t (trip reason now b next) (next b))
  trip-if true reason now l b next h f = walk-trip reason now l b next h f
  trip-if false reason now l b next h f = f l b h

  -- ---- tick

  fall-if : (o : Option Reason) (axis now : ℕ) (l : Log) (b : Book) (next : Book → Interaction) → J l b → Next next
      → Safe W D l (fallback_if o axis now b next)
  unfolding fallback_if
  fall-if None axis now l b next h f = f l b h
  fall-if (Some reason) axis now l b next h f = fall-or-trip axis reason now l b next h f

  walk-expiries : (is : List ℕ) (now : ℕ) (l : Log) (b : Book) (next : Book → Interaction) → J l b → Next next
      → Safe W D l (expiries is now b next)
  unfolding expiries
  walk-expiries [] now l b next h f = f l b h
  walk-expiries (axis ∷ is) now l b next h f =
      fall-if (due now (lease_at b axis) (active_at b axis)) axis now l b _ h (λ l' b' h'. walk-expiries is now l' b' next h' f)

  walk-supervise : (now : ℕ) (l : Log) (b : Book) (next : Book → Interaction) → J l b → Next next → Safe W D l (supervise now b next)
  unfolding supervise watchdog staleness
  walk-supervise now l b next h f =
      trip-if (ltb b.config.watchdog_ms (now - b.last_tick) && is_armed b.state) Reason.Watchdog now l b _ h
      (λ l₁ b₁ h₁. let b₂ = with_last_tick now b₁ in
      trip-if (is_stale now b₂ && is_armed b₂.state) Reason.StateStale now l₁ b₂ _ (k.ticks now l₁ b₁ h₁)
      (λ l₃ b₃ h₃. walk-expiries axes now l₃ b₃ _ h₃ (λ l₄ b₄ h₄. f l₄ (refresh_state b₄) (k.refreshes l₄ b₄ h₄))))

  pub walk-tick : (now : ℕ) (l : Log) (b : Book) (next : Book → Interaction) → J l b → Next next → Safe W D l (tick now b next)
  unfolding tick
  walk-tick now l b next h f = go (ltb now b.last_tick) (exhausted b)
    where
      go : (t u : Bool) → Safe W D l (cond t (trip Reason.Clock now b next) (cond u (trip Reason.Faulted now b next) (supervise now b next)))
      go true u = walk-trip Reason.Clock now l b next h f
      go false true = walk-trip Reason.Faulted now l b next h f
      go false false = walk-supervise now l b next h f

  -- ---- update_state

  walk-preconditions : (is : List ℕ) (now : ℕ) (l : Log) (b : Book) (next : Book → Interaction) → J l b → Next next
      → Safe W D l (preconditions is now b next)
  unfolding preconditions
  walk-preconditions [] now l b next h f = f l b h
  walk-preconditions (axis ∷ is) now l b next h f =
      go (holds_of (active_at b axis) (λ a. not (permits a.capability b.flags))) (λ l' b' h'. walk-preconditions is now l' b' next h' f)
    where
      go : (t : Bool) → Next (λ b'. preconditions is now b' next)
          → Safe W D l
          (cond t (fallback_or_trip axis Reason.Precondition now b (λ b'. preconditions is now b' next)) (preconditions is now b next))
      go true rest = fall-or-trip axis Reason.Precondition now l b _ h rest
      go false rest = rest l b h

  walk-new-flags : (x now : ℕ) (l : Log) (b : Book) → J l b → Safe W D l (new_flags x now b)
  unfolding new_flags flagged
  walk-new-flags x now l b h = go (meets_estop x b.config) (k.bumps l _ (k.flags x l b h))
    where
      go : (t : Bool) → J l (flagged x b)
          → Safe W D l
          (cond t (trip Reason.Estop now (flagged x b) (λ b''. Done b'' Returned))
          (preconditions axes now (flagged x b) (λ b''. Done (refresh_state b'') Returned)))
      go true h' = walk-trip Reason.Estop now l _ _ h' (λ l'' b'' h''. k.ends l'' b'' Returned tt h'')
      go false h' =
          walk-preconditions axes now l _ _ h' (λ l'' b'' h''. k.ends l'' (refresh_state b'') Returned tt (k.refreshes l'' b'' h''))

  pub walk-sense : (x now : ℕ) (l : Log) (b : Book) → J l b → Safe W D l (sense x now b)
  unfolding sense
  walk-sense x now l b h = go (ltb now b.last_tick) (eqb x b.flags)
    where
      go : (t u : Bool) → Safe W D l
          (cond t (Done b Returned) (cond u (Done (with_state_at now b) Returned) (new_flags x now (with_state_at now b))))
      go true u = k.ends l b Returned tt h
      go false true = k.ends l (with_state_at now b) Returned tt (k.stamps now l b h)
      go false false = walk-new-flags x now l (with_state_at now b) (k.stamps now l b h)

  -- ---- emergency_stop, poll_estop

  pub walk-stop : (now : ℕ) (l : Log) (b : Book) (next : Book → Interaction) → J l b → Next next → Safe W D l (emergency_stop now b next)
  unfolding emergency_stop masked
  walk-stop now l b next h f = walk-trip Reason.Estop _ l _ next (k.flags _ l _ (k.ticks _ l b h)) f

  pub walk-poll : (raised now : ℕ) (l : Log) (b : Book) → J l b → Safe W D l (poll_estop raised now b)
  unfolding poll_estop
  walk-poll raised now l b h = go (eqb raised b.estop_seen)
    where
      go : (t : Bool) → Safe W D l (cond t (Done b (Polled false)) (emergency_stop now (with_estop_seen raised b) (λ b'. Done b' (Polled true))))
      go true = k.ends l b (Polled false) tt h
      go false = walk-stop now l _ _ (k.sees raised l b h) (λ l' b' h'. k.ends l' b' (Polled true) tt h')

  -- ---- recover_local, where its two ends are known

  module _ (f : (good : Bool) → Next (recovered good)) where
    walk-recoveries : (is : List ℕ) (good : Bool) (now : ℕ) (l : Log) (b : Book) → J l b → Safe W D l (recoveries is good now b)
    unfolding recoveries
    walk-recoveries [] good now l b h = f good l b h
    walk-recoveries (axis ∷ is) good now l b h =
        walk-fallback axis Reason.Recovered now l b _ h (λ ok l' b' h'. walk-recoveries is (good && ok) now l' b' h')

    pub walk-recover : (now : ℕ) (l : Log) (b : Book) → J l b → Safe W D l (recover now b)
    unfolding recover
    walk-recover now l b h = go (meets_estop b.flags b.config) (ltb now b.last_tick || (is_stale now b || exhausted b))
      where
        go : (t u : Bool) → Safe W D l
            (cond t (Done b (Refused Reason.Estop))
            (cond u (Done b (Refused Reason.Precondition)) (recoveries (used_axes b.capabilities) true now b)))
        go true u = k.ends l b (Refused Reason.Estop) tt h
        go false true = k.ends l b (Refused Reason.Precondition) tt h
        go false false = walk-recoveries (used_axes b.capabilities) true now l b h

  -- ---- a rejected order

  pub walk-reject : (reason : Reason) (o : Submission) (l : Log) (b : Book) → J l b → Safe W D l (reject reason o b)
  unfolding reject storm
  walk-reject reason o l b h =
      walk-record _ l _ _ (k.counts _ l b h)
      (λ r l' b' h'.
      trip-if (leb b'.config.invalid_limit b'.invalid_count && is_armed b'.state) Reason.InvalidStorm o.now l' b'
      (λ b''. Done b'' (Submitted r)) h' (λ l'' b'' h''. k.ends l'' b'' (Submitted r) tt h''))

-- The rules that calls share, and what each leaves of the state's facts: a trip leaves no lease, and a tick leaves a book as it is between
-- calls, ticked at its time if it is ready. (Keeps has the same rules for invariants that do not speak of the state.) Assumes nothing.
use Prim.Native.Nat.{ℕ, ◌-◌, ◌≤◌}
use mathlib.Core.Bool.{Bool, true, false, cond, ◌&&◌, false≢true, true≢false}
use mathlib.Core.List.{List, [], ◌∷◌}
use mathlib.Core.Logic.{◌≢◌}
use Rattle.std.specs.Prelude.{Option, Some, None}
use mathlib.Core.Path.{◌≡◌, refl, sym, ap, ◌∙◌}
use native.Mathlib.Omega.{arith}
use borrow.Author.Tests.{ltb-true, ltb-false}
use lib.Dec.{ltb}
use Rattle.model.specs.declared.Config.{Config}
use Rattle.model.specs.declared.Decision.{Decision}
use Rattle.model.specs.declared.Reason.{Reason}
use Rattle.model.specs.declared.Receipt.{Receipt}
use Rattle.model.specs.declared.RuntimeState.TheVariants as State
use Rattle.model.specs.Lists.{any}
use Rattle.rules.specs.Book.{Book, lease_at, active_at}
use Rattle.rules.specs.With.{with_leases, with_active, with_receipts, with_next_receipt, with_epoch, with_last_tick, with_state}
use Rattle.rules.specs.Receipts.{is_rejected, numbered, kept, event}
use Rattle.rules.specs.Interaction.{Answer, Interaction}
use Rattle.rules.specs.Admission.{axes, is_some, is_armed, is_stale}
use Rattle.rules.specs.Rules.{used_axes, bump_epoch, record_receipt, refresh_state, cleared, fallback, tripped, fallbacks, trip, fallback_or_trip, exhausted, watchdog, staleness, due, fallback_if, expiries, supervise, tick}
use Rattle.rules.specs.Protocol.{ItemObserve, ItemExecute, ItemFallback, ItemRecord, Start}
use Rattle.rules.specs.Log.{Took, Replied, Handed, Ended, Log}
use Rattle.rules.specs.StateFacts.{NoLease}
use Rattle.rules.proofs.Safe.{Safe}
use Rattle.rules.proofs.Keeps.{is_ready, tripped-not-ready}
use Rattle.rules.proofs.StateBook.{ReachedIn, not_top, Good, Calm, Tidy, refreshed-ready, good-cleared, good-kept, good-tripped, calm-cleared, calm-kept, tidy-refreshed, tidy-down, base-ticked, OnlyOn, only-used, only-cleared, only_kept, only_none}

-- ---- what holds while a reply is awaited

-- the receipt of a rejected order has another reason than 18
abbrev pub NoClock : Decision → Reason → Type 0
NoClock d reason = d ≡ Decision.Rejected → reason ≢ Reason.Clock

pub no-clock : (d : Decision) (reason : Reason) → is_rejected d ≡ false → NoClock d reason
unfolding is_rejected
no-clock d reason h e = absurd (true≢false (sym (ap is_rejected e) ∙ h))

-- so where the newest event hands such a receipt out
abbrev pub Newest : Log → Type 0
Newest [] = Unit
Newest (Took c ∷ l) = Unit
Newest (Replied r ∷ l) = Unit
Newest (Handed (ItemObserve axis) ∷ l) = Unit
Newest (Handed (ItemExecute c p) ∷ l) = Unit
Newest (Handed (ItemFallback axis r) ∷ l) = Unit
Newest (Handed (ItemRecord r) ∷ l) = NoClock r.decision r.reason
Newest (Ended a ∷ l) = Unit

abbrev pub Seen : Start → Log → Book → Type 0
Seen s l b = Good s b × Newest l

-- ---- facts that fallbacks, receipts and trips keep

pub record Steady (T : Book → Type 0) : Type 0 where
  pub clears : (axis : ℕ) (b : Book) → T b → T (cleared axis b)
  pub keeps : (r : Receipt) (b : Book) → T b → T (kept r b)
  pub trips : (reason : Reason) (b : Book) → T b → T (with_state (tripped reason b.state) b)

both : (T U : Book → Type 0) → Steady T → Steady U → Steady (λ b. T b × U b)
both T U t u =
    record {
      clears = λ axis b h. (t.clears axis b h.0, u.clears axis b h.1);
      keeps = λ r b h. (t.keeps r b h.0, u.keeps r b h.1);
      trips = λ reason b h. (t.trips reason b h.0, u.trips reason b h.1);
    }

good : (s : Start) → Steady (Good s)
good s = record { clears = good-cleared s; keeps = good-kept s; trips = good-tripped s }

-- what they do not touch
pub untouched : (T : ℕ → ℕ → Config → Type 0) → Steady (λ b. T b.last_tick b.flags b.config)
unfolding cleared bump_epoch with_epoch with_leases with_active kept with_next_receipt with_receipts with_state
untouched T = record { clears = λ axis b h. h; keeps = λ r b h. h; trips = λ reason b h. h }

-- that the runtime is not ready
down : Steady (λ b. is_ready b.state ≡ false)
unfolding cleared bump_epoch with_epoch with_leases with_active kept with_next_receipt with_receipts with_state
down = record { clears = λ axis b h. h; keeps = λ r b h. h; trips = λ reason b h. tripped-not-ready reason b.state }

-- with a counter at the top every time counts as reached
spent : (now : ℕ) (b : Book) → exhausted b ≡ true → ReachedIn now b
unfolding exhausted
spent now b e p q r = absurd (false≢true (rw (p, q, r) at e))

-- What a tick at `now` leaves: where the runtime is ready its time is the last tick, and `S`; and `now` is not after the last tick unless a
-- counter is at the top.
pub record Ticked (now : ℕ) (S : Type 0) (b : Book) : Type 0 where
  pub ready : is_ready b.state ≡ true → (b.last_tick ≡ now) × S
  pub reached : ReachedIn now b

ticked : (now : ℕ) (S : Type 0) → Steady (Ticked now S)
unfolding cleared bump_epoch with_epoch with_leases with_active kept with_next_receipt with_receipts with_state
ticked now S =
    record {
      clears = λ axis b h. record { ready = h.ready; reached = λ p. h.reached (not_top _ p) };
      keeps = λ r b h. record { ready = h.ready; reached = λ p q. h.reached p (not_top _ q) };
      trips = λ reason b h. record { ready = λ e. absurd (true≢false (sym e ∙ tripped-not-ready reason b.state)); reached = h.reached };
    }

-- what a tick that leaves the runtime ready has found: a clock that did not go back, and while Armed a gap within the watchdog's
abbrev pub Supervised : ℕ → Book → Type 0
Supervised now b = (b.last_tick ≤ now) × (b.state ≡ State.Armed → now - b.last_tick ≤ b.config.watchdog_ms)

watched : (now : ℕ) (b : Book) → (ltb b.config.watchdog_ms (now - b.last_tick) && is_armed b.state) ≡ false → b.state ≡ State.Armed
    → now - b.last_tick ≤ b.config.watchdog_ms
unfolding is_armed
watched now b e armed = go (ltb b.config.watchdog_ms (now - b.last_tick)) refl (rw armed at e)
  where
    go : (t : Bool) → ltb b.config.watchdog_ms (now - b.last_tick) ≡ t → (t && true) ≡ false → now - b.last_tick ≤ b.config.watchdog_ms
    go true p q = absurd (true≢false q)
    go false p q = ltb-false _ _ p

-- ---- a receipt, and a fallback with its receipt

module _ (s : Start) (D : Log → Book → Answer → Type 0) where
  module _ (J : Book → Type 0) (shows : (b : Book) → J b → Good s b) (keeps : (r : Receipt) (b : Book) → J b → J (kept r b)) where
    pub after-record : (r : Receipt) (l : Log) (b : Book) (next : Receipt → Book → Interaction) → NoClock r.decision r.reason → J b
        → ((l' : Log) (b' : Book) → J b' → Safe (Seen s) D l' (next (numbered b.next_receipt r) b')) → Safe (Seen s) D l (record_receipt r b next)
    unfolding record_receipt numbered
    after-record r l b next n h f = let h' = keeps (numbered b.next_receipt r) b h in ((shows _ h', n), f _ _ h')

    pub after-fallback : (axis : ℕ) (reason : Reason) (now : ℕ) (l : Log) (b : Book) (next : Bool → Book → Interaction) → J (cleared axis b)
        → ((ok : Bool) (l' : Log) (b' : Book) → J b' → Safe (Seen s) D l' (next ok b')) → Safe (Seen s) D l (fallback axis reason now b next)
    unfolding fallback event is_rejected
    after-fallback axis reason now l b next h f =
        ((shows _ h, tt), λ ok. after-record _ _ (cleared axis b) (λ r b'. next ok b') (no-clock _ _ refl) h (f ok))

  -- ---- a trip

  module _ (T : Book → Type 0) (steady : Steady T) where
    -- a fallback on an axis, within fallbacks on these
    pub after_one : (axis : ℕ) (is : List ℕ) (reason : Reason) (now : ℕ) (l : Log) (b : Book) (next : Bool → Book → Interaction)
        → Good s b × T b → OnlyOn (axis ∷ is) b
        → ((ok : Bool) (l' : Log) (b' : Book) → Good s b' × T b' → OnlyOn is b' → Safe (Seen s) D l' (next ok b'))
        → Safe (Seen s) D l (fallback axis reason now b next)
    after_one axis is reason now l b next h on f =
        after-fallback (λ b'. (Good s b' × T b') × OnlyOn is b') (λ b' k. k.0.0) (λ r b' k. ((both _ _ (good s) steady).keeps r b' k.0, only_kept is r b' k.1))
        axis reason now l b next
        ((both _ _ (good s) steady).clears axis b h, only-cleared axis is b on)
        (λ ok l' b' k. f ok l' b' k.0 k.1)

    after-fallbacks : (is : List ℕ) (reason : Reason) (now : ℕ) (l : Log) (b : Book) (next : Book → Interaction) → Good s b × T b → OnlyOn is b
        → ((l' : Log) (b' : Book) → Good s b' × T b' → NoLease b' → Safe (Seen s) D l' (next b')) → Safe (Seen s) D l (fallbacks is reason now b next)
    unfolding fallbacks
    after-fallbacks [] reason now l b next h on f = f l b h (only_none b on)
    after-fallbacks (axis ∷ is) reason now l b next h on f =
        after_one axis is reason now l b _ h on (λ ok l' b' h' on'. after-fallbacks is reason now l' b' next h' on' f)

  module _ (T : Book → Type 0) (steady : Steady T) where
    -- a trip whose state is set in a good book leaves the runtime stopped, with no lease
    pub after-trip : (reason : Reason) (now : ℕ) (l : Log) (b : Book) (next : Book → Interaction)
        → Good s (with_state (tripped reason b.state) b) → T (with_state (tripped reason b.state) b)
        → ((l' : Log) (b' : Book) → Calm s b' → is_ready b'.state ≡ false → T b' → Safe (Seen s) D l' (next b'))
        → Safe (Seen s) D l (trip reason now b next)
    unfolding trip with_state
    after-trip reason now l b next h k f =
        after-fallbacks (λ b'. (is_ready b'.state ≡ false) × T b') (both _ _ down steady) (used_axes b.capabilities) reason now l _ next
        (h, (tripped-not-ready reason b.state, k)) (only-used s (with_state (tripped reason b.state) b) h.0)
        (λ l' b' h' none'. f l' b' (h'.0, λ e. none') h'.1.0 h'.1.1)

    pub after-fallback-or-trip : (axis : ℕ) (reason : Reason) (now : ℕ) (l : Log) (b : Book) (next : Book → Interaction) → Calm s b × T b
        → ((l' : Log) (b' : Book) → Calm s b' × T b' → Safe (Seen s) D l' (next b')) → Safe (Seen s) D l (fallback_or_trip axis reason now b next)
    unfolding fallback_or_trip
    after-fallback-or-trip axis reason now l b next h f =
        after-fallback (λ b'. Calm s b' × T b') (λ b' k. k.0.0) (λ r b' k. (calm-kept s r b' k.0, steady.keeps r b' k.1))
        axis reason now l b _ (calm-cleared s axis b h.0, steady.clears axis b h.1) after
      where
        after : (ok : Bool) (l' : Log) (b' : Book) → Calm s b' × T b' → Safe (Seen s) D l' (cond ok (next b') (trip Reason.Driver now b' next))
        after true l' b' h' = f l' b' h'
        after false l' b' h' =
            after-trip Reason.Driver now l' b' next (good-tripped s Reason.Driver b' h'.0.0) (steady.trips Reason.Driver b' h'.1)
            (λ l'' b'' c d k. f l'' b'' (c, k))

    after-due : (o : Option Reason) (axis now : ℕ) (l : Log) (b : Book) (next : Book → Interaction) → Calm s b × T b
        → ((l' : Log) (b' : Book) → Calm s b' × T b' → Safe (Seen s) D l' (next b')) → Safe (Seen s) D l (fallback_if o axis now b next)
    unfolding fallback_if
    after-due None axis now l b next h f = f l b h
    after-due (Some reason) axis now l b next h f = after-fallback-or-trip axis reason now l b next h f

    after-expiries : (is : List ℕ) (now : ℕ) (l : Log) (b : Book) (next : Book → Interaction) → Calm s b × T b
        → ((l' : Log) (b' : Book) → Calm s b' × T b' → Safe (Seen s) D l' (next b')) → Safe (Seen s) D l (expiries is now b next)
    unfolding expiries
    after-expiries [] now l b next h f = f l b h
    after-expiries (axis ∷ is) now l b next h f =
        after-due (due now (lease_at b axis) (active_at b axis)) axis now l b _ h (λ l' b' h'. after-expiries is now l' b' next h' f)

  -- ---- a tick

  after-stale : (S : Type 0) (now : ℕ) (l : Log) (b : Book) (next : Book → Interaction) → Calm s b × Ticked now S b
      → ((l' : Log) (b' : Book) → Calm s b' × Ticked now S b' → Safe (Seen s) D l' (next b')) → Safe (Seen s) D l (staleness now b next)
  unfolding staleness
  after-stale S now l b next h f = go (is_stale now b && is_armed b.state)
    where
      go : (t : Bool) → Safe (Seen s) D l (cond t (trip Reason.StateStale now b next) (next b))
      go true =
          after-trip (Ticked now S) (ticked now S) Reason.StateStale now l b next (good-tripped s _ b h.0.0) ((ticked now S).trips _ b h.1)
          (λ l' b' c d k. f l' b' (c, k))
      go false = f l b h

  tidy-ticked : (S : Type 0) (now : ℕ) (b : Book) → Calm s b × Ticked now S b → Tidy s (refresh_state b) × Ticked now S (refresh_state b)
  unfolding refresh_state with_state
  tidy-ticked S now b h = (
    tidy-refreshed s b h.0.0.0 h.0.1,
    record { ready = λ e. h.1.ready (sym (refreshed-ready (any is_some b.leases) b.state) ∙ e); reached = h.1.reached },
  )

  calm-ticked : (now : ℕ) (b : Book) → b.last_tick ≤ now → Calm s b → Calm s (with_last_tick now b)
  unfolding with_last_tick
  calm-ticked now b later h = ((base-ticked s now b later h.0.0, h.0.1), h.1)

  set-ticked : (S : Type 0) (now : ℕ) (b : Book) → (is_ready b.state ≡ true → S) → Ticked now S (with_last_tick now b)
  unfolding with_last_tick
  set-ticked S now b h = record { ready = λ e. (refl, h e); reached = λ p q r. omega arith }

  -- the rest of a tick, once the watchdog was looked at
  after-watch : (S : Type 0) (now : ℕ) (l : Log) (b : Book) (next : Book → Interaction) → Calm s b → b.last_tick ≤ now → (is_ready b.state ≡ true → S)
      → ((l' : Log) (b' : Book) → Tidy s b' → Ticked now S b' → Safe (Seen s) D l' (next b'))
      → Safe (Seen s) D l (staleness now (with_last_tick now b) (λ b₂. expiries axes now b₂ (λ b₃. next (refresh_state b₃))))
  after-watch S now l b next h later k f =
      after-stale S now l (with_last_tick now b) _ (calm-ticked now b later h, set-ticked S now b k)
      (λ l₂ b₂ h₂. after-expiries (Ticked now S) (ticked now S) axes now l₂ b₂ _ h₂
      (λ l₃ b₃ h₃. let t = tidy-ticked S now b₃ h₃ in f l₃ (refresh_state b₃) t.0 t.1))

  after-supervise : (now : ℕ) (l : Log) (b : Book) (next : Book → Interaction) → Tidy s b → b.last_tick ≤ now
      → ((l' : Log) (b' : Book) → Tidy s b' → Ticked now (Supervised now b) b' → Safe (Seen s) D l' (next b'))
      → Safe (Seen s) D l (supervise now b next)
  unfolding supervise watchdog
  after-supervise now l b next h later f = go (ltb b.config.watchdog_ms (now - b.last_tick) && is_armed b.state) refl
    where
      rest : Book → Interaction
      rest b₁ = staleness now (with_last_tick now b₁) (λ b₂. expiries axes now b₂ (λ b₃. next (refresh_state b₃)))

      go : (t : Bool) → (ltb b.config.watchdog_ms (now - b.last_tick) && is_armed b.state) ≡ t
          → Safe (Seen s) D l (cond t (trip Reason.Watchdog now b rest) (rest b))
      go true e =
          after-trip (λ b₁. b₁.last_tick ≤ now) (untouched (λ time flags config. time ≤ now)) Reason.Watchdog now l b rest
          (good-tripped s _ b h.0.0) ((untouched (λ time flags config. time ≤ now)).trips Reason.Watchdog b later)
          (λ l₁ b₁ c d k. after-watch (Supervised now b) now l₁ b₁ next c k (λ up. absurd (true≢false (sym up ∙ d))) f)
      go false e = after-watch (Supervised now b) now l b next h.0 later (λ up. (later, λ armed. watched now b e armed)) f

  -- a tick that trips at once
  after-refusal : (reason : Reason) (now : ℕ) (l : Log) (b : Book) (next : Book → Interaction) → Tidy s b → ReachedIn now b
      → ((l' : Log) (b' : Book) → Tidy s b' → Ticked now (Supervised now b) b' → Safe (Seen s) D l' (next b')) → Safe (Seen s) D l (trip reason now b next)
  unfolding with_state
  after-refusal reason now l b next h reached f =
      let T = Ticked now (Supervised now b) in
      after-trip T (ticked now (Supervised now b)) reason now l b next (good-tripped s reason b h.0.0)
      (record { ready = λ e. absurd (true≢false (sym e ∙ tripped-not-ready reason b.state)); reached = reached })
      (λ l' b' c d k. f l' b' (tidy-down s b' c d) k)

  pub after-tick : (now : ℕ) (l : Log) (b : Book) (next : Book → Interaction) → Tidy s b
      → ((l' : Log) (b' : Book) → Tidy s b' → Ticked now (Supervised now b) b' → Safe (Seen s) D l' (next b')) → Safe (Seen s) D l (tick now b next)
  unfolding tick
  after-tick now l b next h f = go (ltb now b.last_tick) (exhausted b) refl refl
    where
      go : (t u : Bool) → ltb now b.last_tick ≡ t → exhausted b ≡ u
          → Safe (Seen s) D l (cond t (trip Reason.Clock now b next) (cond u (trip Reason.Faulted now b next) (supervise now b next)))
      go true u e x = after-refusal Reason.Clock now l b next h (λ p q r. omega (arith, ltb-true now b.last_tick e)) f
      go false true e x = after-refusal Reason.Faulted now l b next h (spent now b x) f
      go false false e x = after-supervise now l b next h (ltb-false now b.last_tick e) f

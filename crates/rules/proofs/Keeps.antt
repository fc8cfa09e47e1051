-- One lemma for each rule that calls share, for every invariant at once: where the invariant holds and what follows keeps it, the rule
-- keeps it. `keeps-tick` also says what a tick leaves where the runtime is ready. Assumes nothing.
use Prim.Native.Nat.{ℕ, zero, suc, ◌-◌, ◌<◌, ◌≤◌}
use mathlib.Core.Bool.{Bool, true, false, cond, ◌&&◌, ◌||◌, false≢true}
use mathlib.Core.List.{List, [], ◌∷◌, reverse, reverse_aux}
use mathlib.Core.Logic.{inl, inr, ◌≢◌}
use Rattle.std.specs.Prelude.{Option, Some, None}
use Rattle.std.proofs.lemmas.Option.{none-some}
use Rattle.model.proofs.Options.{some-ne-none, some-injective}
use mathlib.Core.Path.{◌≡◌, refl, sym, ap, ◌∙◌, subst}
use native.Mathlib.Omega.{arith}
use borrow.Author.Tests.{leb-false, eqb-false}
use lib.Dec.{ltb, leb, eqb}
use lib.ListN.{length, get_or, set}
use Rattle.model.specs.declared.Active.{Active}
use Rattle.model.specs.declared.Lease.{Lease}
use Rattle.model.specs.declared.Reason.{Reason}
use Rattle.model.specs.declared.Receipt.{Receipt}
use Rattle.model.specs.declared.RuntimeState.{RuntimeState}
use Rattle.model.specs.declared.RuntimeState.TheVariants as State
use Rattle.model.specs.Lists.{any}
use Rattle.model.specs.Reasons.{number}
use Rattle.rules.specs.Book.{Book, lease_at, active_at}
use Rattle.rules.specs.With.{with_leases, with_active, with_receipts, with_next_receipt, with_epoch, with_last_tick, with_state}
use Rattle.rules.specs.Receipts.{top, numbered, kept, event}
use Rattle.rules.specs.Interaction.{Answer, Interaction}
use Rattle.rules.specs.Admission.{holds_of, is_some, is_armed, is_estopped, is_stale, axes}
use Rattle.rules.specs.Rules.{used_axes, bump_epoch, record_receipt, refreshed, refresh_state, cleared, fallback, tripped, fallbacks, trip, fallback_or_trip, exhausted, watchdog, staleness, due, fallback_if, expiries, supervise, tick}
use Rattle.rules.specs.Protocol.{Reply, FellBack, Recorded, ItemFallback, ItemRecord}
use Rattle.rules.specs.Log.{Replied, Handed, Log, is_control}
use Rattle.rules.specs.Lists.{Mem}
use Rattle.rules.proofs.Basics.{neither}
use Rattle.rules.proofs.Safe.{Safe}

-- ---- an element after a store

module _ {A : Type 0} (d : A) (P : A → Type 0) where
  pub at_set : (l : List A) (i : ℕ) (v : A) (j : ℕ) → (j ≡ i → P v) → ((j ≡ i → get_or l j d ≡ d) → P (get_or l j d)) → P (get_or (set l i v) j d)
  at_set [] i v j hit miss = miss (λ e. refl)
  at_set (x ∷ xs) zero v zero hit miss = hit refl
  at_set (x ∷ xs) zero v (suc j) hit miss = miss (λ e. absurd (omega arith))
  at_set (x ∷ xs) (suc i) v zero hit miss = miss (λ e. absurd (omega arith))
  at_set (x ∷ xs) (suc i) v (suc j) hit miss = at_set xs i v j (λ e. hit (ap suc e)) (λ f. miss (λ e. f (omega arith)))

  pub at-set-in : (l : List A) (i : ℕ) (v : A) (j : ℕ) → i < length l → (j ≡ i → P v) → (j ≢ i → P (get_or l j d)) → P (get_or (set l i v) j d)
  at-set-in [] i v j h hit miss = absurd (omega arith)
  at-set-in (x ∷ xs) zero v zero h hit miss = hit refl
  at-set-in (x ∷ xs) zero v (suc j) h hit miss = miss (λ e. omega arith)
  at-set-in (x ∷ xs) (suc i) v zero h hit miss = miss (λ e. omega arith)
  at-set-in (x ∷ xs) (suc i) v (suc j) h hit miss = at-set-in xs i v j (omega arith) (λ e. hit (ap suc e)) (λ n. miss (λ e. n (omega arith)))

-- ---- the rules that every call is made of

-- the steps of these rules keep `J`, a fallback where its reason meets `Q`, and `J` gives what is to hold at a wait
pub record Shared (Q : Reason → Type 0) (W J : Log → Book → Type 0) : Type 0 where
  pub waits : (l : Log) (b : Book) → J l b → W l b
  pub replied : (r : Reply) (l : Log) (b : Book) → J l b → J (Replied r ∷ l) b
  pub falls : (axis : ℕ) (reason : Reason) (l : Log) (b : Book) → Q reason → J l b → J (Handed (ItemFallback axis reason) ∷ l) (cleared axis b)
  pub records : (r : Receipt) (l : Log) (b : Book) → is_control r.decision ≡ false → J l b
      → J (Handed (ItemRecord (numbered b.next_receipt r)) ∷ l) (kept (numbered b.next_receipt r) b)
  pub trips : (reason : Reason) (l : Log) (b : Book) → J l b → J l (with_state (tripped reason b.state) b)

-- beside a fact about the log that the events of these rules keep
pub beside : {Q : Reason → Type 0} {W J : Log → Book → Type 0} (P : Log → Type 0) → ((r : Reply) (l : Log) → P l → P (Replied r ∷ l))
    → ((axis : ℕ) (reason : Reason) (l : Log) → P l → P (Handed (ItemFallback axis reason) ∷ l))
    → ((r : Receipt) (l : Log) → P l → P (Handed (ItemRecord r) ∷ l)) → Shared Q W J → Shared Q W (λ l b. J l b × P l)
beside P replied falls records k =
    record {
      waits = λ l b h. k.waits l b h.0;
      replied = λ r l b h. (k.replied r l b h.0, replied r l h.1);
      falls = λ axis reason l b q h. (k.falls axis reason l b q h.0, falls axis reason l h.1);
      records = λ r l b quiet h. (k.records r l b quiet h.0, records _ l h.1);
      trips = λ reason l b h. (k.trips reason l b h.0, h.1);
    }

abbrev pub AnyReason : Reason → Type 0
AnyReason reason = Unit

module _ {Q : Reason → Type 0} {W J : Log → Book → Type 0} (D : Log → Book → Answer → Type 0) (k : Shared Q W J) where
  pub keeps-record : (r : Receipt) (l : Log) (b : Book) (next : Receipt → Book → Interaction) → is_control r.decision ≡ false → J l b
      → ((l' : Log) (b' : Book) → J l' b' → Safe W D l' (next (numbered b.next_receipt r) b')) → Safe W D l (record_receipt r b next)
  unfolding record_receipt
  keeps-record r l b next quiet h f =
      let h₁ = k.records r l b quiet h in
      (k.waits _ _ h₁, f _ _ (k.replied Recorded _ _ h₁))

  -- a fallback whose item is handed out in a good book
  pub keeps-fallen : (axis : ℕ) (reason : Reason) (now : ℕ) (l : Log) (b : Book) (next : Bool → Book → Interaction)
      → J (Handed (ItemFallback axis reason) ∷ l) (cleared axis b)
      → ((ok : Bool) (l' : Log) (b' : Book) → J l' b' → Safe W D l' (next ok b')) → Safe W D l (fallback axis reason now b next)
  unfolding fallback event is_control
  keeps-fallen axis reason now l b next h f =
      (k.waits _ _ h, λ ok. keeps-record _ _ (cleared axis b) (λ r b'. next ok b') refl (k.replied (FellBack ok) _ _ h) (f ok))

  pub keeps-fallback : (axis : ℕ) (reason : Reason) (now : ℕ) (l : Log) (b : Book) (next : Bool → Book → Interaction) → Q reason → J l b
      → ((ok : Bool) (l' : Log) (b' : Book) → J l' b' → Safe W D l' (next ok b')) → Safe W D l (fallback axis reason now b next)
  keeps-fallback axis reason now l b next q h f = keeps-fallen axis reason now l b next (k.falls axis reason l b q h) f

  module _ (reason : Reason) (now : ℕ) (next : Book → Interaction) (q : Q reason)
      (f : (l' : Log) (b' : Book) → J l' b' → Safe W D l' (next b')) where
    keeps-fallbacks : (is : List ℕ) (l : Log) (b : Book) → J l b → Safe W D l (fallbacks is reason now b next)
    unfolding fallbacks
    keeps-fallbacks [] l b h = f l b h
    keeps-fallbacks (axis ∷ is) l b h = keeps-fallback axis reason now l b _ q h (λ ok l' b' h'. keeps-fallbacks is l' b' h')

    -- a trip whose state is set in a good book
    keeps-tripped : (l : Log) (b : Book) → J l (with_state (tripped reason b.state) b) → Safe W D l (trip reason now b next)
    unfolding trip
    keeps-tripped l b h = keeps-fallbacks (used_axes b.capabilities) l _ h

    pub keeps-trip : (l : Log) (b : Book) → J l b → Safe W D l (trip reason now b next)
    keeps-trip l b h = keeps-tripped l b (k.trips reason l b h)

    -- a trip whose first item is handed out in a good book
    pub keeps-trip-from : (axis : ℕ) (rest : List ℕ) (l : Log) (b : Book) → used_axes b.capabilities ≡ axis ∷ rest
        → J (Handed (ItemFallback axis reason) ∷ l) (cleared axis (with_state (tripped reason b.state) b)) → Safe W D l (trip reason now b next)
    unfolding trip fallbacks
    keeps-trip-from axis rest l b e h = rw e (keeps-fallen axis reason now l _ _ h (λ ok l' b' h'. keeps-fallbacks rest l' b' h'))

  -- a fallback whose item is handed out in a good book, and that trips with Driver where it fails
  pub keeps-fallback-or-trip : (axis : ℕ) (reason : Reason) (now : ℕ) (l : Log) (b : Book) (next : Book → Interaction) → Q Reason.Driver
      → J (Handed (ItemFallback axis reason) ∷ l) (cleared axis b)
      → ((l' : Log) (b' : Book) → J l' b' → Safe W D l' (next b')) → Safe W D l (fallback_or_trip axis reason now b next)
  unfolding fallback_or_trip
  keeps-fallback-or-trip axis reason now l b next q h f = keeps-fallen axis reason now l b _ h after
    where
      after : (ok : Bool) (l' : Log) (b' : Book) → J l' b' → Safe W D l' (cond ok (next b') (trip Reason.Driver now b' next))
      after true l' b' h' = f l' b' h'
      after false l' b' h' = keeps-trip Reason.Driver now next q f l' b' h'

-- ---- what holds where the runtime is ready

unfoldable pub is_ready : RuntimeState → Bool
is_ready State.SafeIdle = true
is_ready State.Armed = true
is_ready State.Faulted = false
is_ready State.Estopped = false

pub tripped-not-ready : (reason : Reason) (x : RuntimeState) → is_ready (tripped reason x) ≡ false
unfolding tripped is_ready
tripped-not-ready reason x = go (eqb (number reason) (number Reason.Estop) || is_estopped x)
  where
    go : (t : Bool) → is_ready (cond t State.Estopped State.Faulted) ≡ false
    go true = refl
    go false = refl

refreshed-ready : (leased : Bool) (x : RuntimeState) → is_ready (refreshed leased x) ≡ true → is_ready x ≡ true
unfolding refreshed is_ready
refreshed-ready leased State.SafeIdle e = refl
refreshed-ready leased State.Armed e = refl
refreshed-ready leased State.Faulted e = e
refreshed-ready leased State.Estopped e = e

-- a fact that holds where the runtime is ready
abbrev pub Guarded : (Book → Type 0) → Book → Type 0
Guarded P b = is_ready b.state ≡ true → P b

-- what a tick leaves: a lease number to give, the time of the tick, and no expired lease on the axes looked at
unfoldable pub Unexpired : ℕ → Option Lease → Type 0
Unexpired now None = Unit
Unexpired now (Some x) = now < x.expires_at

pub record Settled (now : ℕ) (done : List ℕ) (b : Book) : Type 0 where
  pub left : b.next_lease < top
  pub clock : b.last_tick ≡ now
  pub fresh : (i : ℕ) → Mem i done → Unexpired now (lease_at b i)

-- a fact that fallbacks and receipts keep
record Lasts (P : Book → Type 0) : Type 0 where
  clears : (axis : ℕ) (b : Book) → P b → P (cleared axis b)
  keeps : (r : Receipt) (b : Book) → P b → P (kept r b)

settled-cleared : (now : ℕ) (d : List ℕ) (axis : ℕ) (b : Book) → Settled now d b → Settled now (axis ∷ d) (cleared axis b)
unfolding cleared bump_epoch with_epoch with_leases with_active Unexpired
settled-cleared now d axis b h = record { left = h.left; clock = h.clock; fresh = fresh }
  where
    fresh : (i : ℕ) → Mem i (axis ∷ d) → Unexpired now (get_or (set b.leases axis None) i None)
    fresh i (inl e) = at_set None (Unexpired now) b.leases axis None i (λ e'. tt) (λ m. rw (m e) tt)
    fresh i (inr n) = at_set None (Unexpired now) b.leases axis None i (λ e'. tt) (λ m. h.fresh i n)

settled-lasts : (now : ℕ) (d : List ℕ) → Lasts (Settled now d)
unfolding kept with_next_receipt with_receipts
settled-lasts now d =
    record {
      clears = λ axis b h. let m = settled-cleared now d axis b h in record { left = m.left; clock = m.clock; fresh = λ i n. m.fresh i (inr n) };
      keeps = λ r b h. record { left = h.left; clock = h.clock; fresh = h.fresh };
    }

settled-refreshed : (now : ℕ) (d : List ℕ) (b : Book) → Settled now d b → Settled now d (refresh_state b)
unfolding refresh_state with_state
settled-refreshed now d b h = record { left = h.left; clock = h.clock; fresh = h.fresh }

not-due : (now : ℕ) (lease : Option Lease) (active : Option Active) → due now lease active ≡ None → Unexpired now lease
unfolding due holds_of Unexpired
not-due now None active e = tt
not-due now (Some x) active e = go (leb x.expires_at now) refl e
  where
    go : (t : Bool) → leb x.expires_at now ≡ t
        → cond t (Some Reason.LeaseExpired) (cond (holds_of active (λ a. leb a.expires_at now)) (Some Reason.StreamExpired) None) ≡ None
        → now < x.expires_at
    go true h e = absurd (some-ne-none _ e)
    go false h e = leb-false _ _ h

settled-next : (now : ℕ) (d : List ℕ) (axis : ℕ) (b : Book) → due now (lease_at b axis) (active_at b axis) ≡ None → Settled now d b → Settled now (axis ∷ d) b
settled-next now d axis b e h = record { left = h.left; clock = h.clock; fresh = fresh }
  where
    fresh : (i : ℕ) → Mem i (axis ∷ d) → Unexpired now (lease_at b i)
    fresh i (inl q) = rw q (not-due now (lease_at b axis) (active_at b axis) e)
    fresh i (inr n) = h.fresh i n

below_top : (n : ℕ) → n ≤ top → (n ≡ top → ⊥) → n < top
below_top n h k = omega (arith, k)

-- before the time of the tick is set
abbrev Left : Book → Type 0
Left b = b.next_lease < top

left-lasts : Lasts Left
unfolding cleared bump_epoch with_epoch with_leases with_active kept with_next_receipt with_receipts
left-lasts = record { clears = λ axis b h. h; keeps = λ r b h. h }

-- ---- the tick

-- a fallback for this reason does not show that the flags of an update were set
abbrev pub Unflagged : Reason → Type 0
Unflagged reason = (eqb (number reason) (number Reason.Estop) || eqb (number reason) (number Reason.Precondition)) ≡ false

-- the reasons of a tick that does not trip for Clock
abbrev pub OfTick : Reason → Type 0
OfTick reason = (eqb (number reason) (number Reason.Clock) ≡ false) × Unflagged reason

due-of-tick : (now : ℕ) (lease : Option Lease) (active : Option Active) (reason : Reason) → due now lease active ≡ Some reason → OfTick reason
unfolding due
due-of-tick now lease active reason = go (holds_of lease (λ l. leb l.expires_at now)) (holds_of active (λ a. leb a.expires_at now))
  where
    go : (t u : Bool) → cond t (Some Reason.LeaseExpired) (cond u (Some Reason.StreamExpired) None) ≡ Some reason → OfTick reason
    go true u e = subst OfTick (some-injective _ _ e) (refl, refl)
    go false true e = subst OfTick (some-injective _ _ e) (refl, refl)
    go false false e = absurd (none-some _ e)

module _ {Q : Reason → Type 0} {W J : Log → Book → Type 0} (D : Log → Book → Answer → Type 0) (k : Shared Q W J)
    (of-tick : (reason : Reason) → OfTick reason → Q reason)
    (restates : (x : RuntimeState) (l : Log) (b : Book) → J l b → J l (with_state x b))
    (fits : (l : Log) (b : Book) → J l b → b.next_lease ≤ top)
    (now : ℕ) (ticks : (l : Log) (b : Book) → J l b → J l (with_last_tick now b)) where
  -- beside a fact that holds where the runtime is ready
  abbrev G : (Book → Type 0) → Log → Book → Type 0
  G P l b = J l b × Guarded P b

  -- a trip leaves the runtime not ready
  stopped : (P : Book → Type 0) (reason : Reason) (l : Log) (b : Book) → J l b → G P l (with_state (tripped reason b.state) b)
  unfolding with_state
  stopped P reason l b h =
      (restates (tripped reason b.state) l b h, λ e. absurd (false≢true (sym (tripped-not-ready reason b.state) ∙ e)))

  guarded : (P : Book → Type 0) → Lasts P → Shared Q W (G P)
  unfolding cleared bump_epoch with_epoch with_leases with_active kept with_next_receipt with_receipts
  guarded P p =
      record {
        waits = λ l b h. k.waits l b h.0;
        replied = λ r l b h. (k.replied r l b h.0, h.1);
        falls = λ axis reason l b q h. (k.falls axis reason l b q h.0, λ e. p.clears axis b (h.1 e));
        records = λ r l b quiet h. (k.records r l b quiet h.0, λ e. p.keeps _ b (h.1 e));
        trips = λ reason l b h. stopped P reason l b h.0;
      }

  guarded-trip : (P : Book → Type 0) → Lasts P → (reason : Reason) → Q reason → (l : Log) (b : Book) (next : Book → Interaction) → J l b
      → ((l' : Log) (b' : Book) → G P l' b' → Safe W D l' (next b')) → Safe W D l (trip reason now b next)
  guarded-trip P p reason q l b next h f = keeps-tripped D (guarded P p) reason now next q f l b (stopped P reason l b h)

  -- a trip that is due or not, and what follows it
  keeps-trip-if : (t : Bool) (P : Book → Type 0) → Lasts P → (reason : Reason) → OfTick reason → (l : Log) (b : Book) (next : Book → Interaction) → G P l b
      → ((l' : Log) (b' : Book) → G P l' b' → Safe W D l' (next b')) → Safe W D l (cond t (trip reason now b next) (next b))
  keeps-trip-if true P p reason q l b next h f = guarded-trip P p reason (of-tick reason q) l b next h.0 f
  keeps-trip-if false P p reason q l b next h f = f l b h

  due-step : (o : Option Reason) (axis : ℕ) (d : List ℕ) (l : Log) (b : Book) (next : Book → Interaction)
      → due now (lease_at b axis) (active_at b axis) ≡ o → G (Settled now d) l b
      → ((l' : Log) (b' : Book) → G (Settled now (axis ∷ d)) l' b' → Safe W D l' (next b')) → Safe W D l (fallback_if o axis now b next)
  unfolding fallback_if cleared bump_epoch with_epoch with_leases with_active
  due-step None axis d l b next e h rest = rest l b (h.0, λ r. settled-next now d axis b e (h.1 r))
  due-step (Some reason) axis d l b next e h rest =
      keeps-fallback-or-trip D (guarded (Settled now (axis ∷ d)) (settled-lasts now (axis ∷ d))) axis reason now l b next
      (of-tick Reason.Driver (refl, refl))
      (k.falls axis reason l b (of-tick reason (due-of-tick now _ _ reason e)) h.0, λ r. settled-cleared now d axis b (h.1 r)) rest

  keeps-expiries : (is : List ℕ) (d : List ℕ) (l : Log) (b : Book) (next : Book → Interaction) → G (Settled now d) l b
      → ((l' : Log) (b' : Book) → G (Settled now (reverse_aux is d)) l' b' → Safe W D l' (next b')) → Safe W D l (expiries is now b next)
  unfolding expiries
  keeps-expiries [] d l b next h f = f l b h
  keeps-expiries (axis ∷ is) d l b next h f =
      due-step (due now (lease_at b axis) (active_at b axis)) axis d l b _ refl h (λ l' b' h'. keeps-expiries is (axis ∷ d) l' b' next h' f)

  settled-ticked : (b : Book) → Guarded Left b → Guarded (Settled now []) (with_last_tick now b)
  unfolding with_last_tick
  settled-ticked b h r = record { left = h r; clock = refl; fresh = λ i m. absurd m }

  guarded-refreshed : (d : List ℕ) (l : Log) (b : Book) → G (Settled now d) l b → G (Settled now d) l (refresh_state b)
  unfolding refresh_state with_state
  guarded-refreshed d l b h =
      (restates _ l b h.0, λ r. settled-refreshed now d b (h.1 (refreshed-ready (any is_some b.leases) b.state r)))

  keeps-supervise : (l : Log) (b : Book) (next : Book → Interaction) → J l b → Left b
      → ((l' : Log) (b' : Book) → G (Settled now (reverse axes)) l' b' → Safe W D l' (next b')) → Safe W D l (supervise now b next)
  unfolding supervise watchdog staleness
  keeps-supervise l b next h left f =
      keeps-trip-if (ltb b.config.watchdog_ms (now - b.last_tick) && is_armed b.state) Left left-lasts Reason.Watchdog (refl, refl) l b _
      (h, λ r. left)
      (λ l₁ b₁ h₁. let b₂ = with_last_tick now b₁ in
      keeps-trip-if (is_stale now b₂ && is_armed b₂.state) (Settled now []) (settled-lasts now []) Reason.StateStale (refl, refl) l₁ b₂ _
      (ticks l₁ b₁ h₁.0, settled-ticked b₁ h₁.1)
      (λ l₃ b₃ h₃. keeps-expiries axes [] l₃ b₃ _ h₃ (λ l₄ b₄ h₄. f l₄ (refresh_state b₄) (guarded-refreshed (reverse axes) l₄ b₄ h₄))))

  not-exhausted : (b : Book) → exhausted b ≡ false → b.next_lease ≤ top → Left b
  unfolding exhausted
  not-exhausted b e h =
      below_top b.next_lease h
      (eqb-false _ _ (neither (eqb b.next_receipt top) _ (neither (eqb b.epoch top) _ e).1).1)

  module _ (next : Book → Interaction)
      (f : (l' : Log) (b' : Book) → J l' b' → Guarded (Settled now (reverse axes)) b' → Safe W D l' (next b')) where
    -- a tick that trips at once
    at_once : (reason : Reason) → Q reason → (l : Log) (b : Book) → J l b → Safe W D l (trip reason now b next)
    at_once reason q l b h =
        guarded-trip (Settled now (reverse axes)) (settled-lasts now (reverse axes)) reason q l b next h (λ l' b' h'. f l' b' h'.0 h'.1)

    -- a tick whose time is not before the last one
    pub keeps-tick-on : (l : Log) (b : Book) → J l b → Safe W D l (cond (exhausted b) (trip Reason.Faulted now b next) (supervise now b next))
    keeps-tick-on l b h = go (exhausted b) refl
      where
        go : (t : Bool) → exhausted b ≡ t → Safe W D l (cond t (trip Reason.Faulted now b next) (supervise now b next))
        go true e = at_once Reason.Faulted (of-tick Reason.Faulted (refl, refl)) l b h
        go false e = keeps-supervise l b next h (not-exhausted b e (fits l b h)) (λ l' b' h'. f l' b' h'.0 h'.1)

    pub keeps-tick : Q Reason.Clock → (l : Log) (b : Book) → J l b → Safe W D l (tick now b next)
    unfolding tick
    keeps-tick q l b h = go (ltb now b.last_tick)
      where
        go : (t : Bool) → Safe W D l (cond t (trip Reason.Clock now b next) (cond (exhausted b) (trip Reason.Faulted now b next) (supervise now b next)))
        go true = at_once Reason.Clock q l b h
        go false = keeps-tick-on l b h

-- What a tick takes away, for every reply (proofs.rs, `tick_revokes_expired_or_unsupervised_authority`). Assumes nothing.
use Prim.Native.Nat.{ℕ, ◌-◌, ◌<◌, ◌≤◌}
use mathlib.Core.Bool.{Bool, true, false}
use mathlib.Core.List.{List, [], ◌∷◌, reverse}
use mathlib.Core.Logic.{◌⊎◌, inl, inr, ◌≢◌}
use Rattle.std.specs.Prelude.{Option, Some, None}
use mathlib.Core.Path.{◌≡◌, refl, sym, ap, ◌∙◌}
use native.Mathlib.Omega.{arith}
use Rattle.model.specs.declared.Lease.{Lease}
use Rattle.model.specs.declared.Reason.{Reason}
use Rattle.model.specs.declared.RuntimeState.TheVariants as State
use Rattle.rules.specs.Book.{Book, lease_at}
use Rattle.rules.specs.With.{with_leases, with_active, with_receipts, with_next_receipt, with_epoch, with_last_tick, with_state}
use Rattle.rules.specs.Receipts.{top, kept}
use Rattle.rules.specs.Interaction.{Answer, Returned, Done}
use Rattle.rules.specs.Admission.{axes}
use Rattle.rules.specs.Lists.{Mem}
use Rattle.rules.specs.Rules.{bump_epoch, cleared, tick}
use Rattle.rules.specs.Protocol.{Reply, Item, ItemFallback, Start}
use Rattle.rules.specs.Log.{Event, Handed, Log}
use Rattle.rules.specs.Way.{Runs}
use Rattle.rules.specs.StateFacts.{NoLease, Revoked}
use Rattle.rules.proofs.Axes.{mem-reverse}
use Rattle.rules.proofs.Safe.{Safe}
use Rattle.rules.proofs.Keeps.{at_set, Shared, AnyReason, is_ready, Guarded, Settled, Unexpired, keeps-tick}
use Rattle.rules.proofs.Outcomes.{safe-both, safe-end}
use Rattle.rules.proofs.StateBook.{Calm, Tidy, not-both, on-axis, armed-by, unarmed}
use Rattle.rules.proofs.StateRules.{Seen, Ticked, Supervised, after-tick}

-- ---- each axis has its lease of before, or has fallen back

-- the lease of an axis now, given the one of before
abbrev Axis : ℕ → Option Lease → Log → Option Lease → Type 0
Axis i was l now = (now ≡ was) ⊎ ((now ≡ None) × ((r : Reason) × Mem (Handed (ItemFallback i r)) l))

abbrev Stood : Book → Log → Book → Type 0
Stood before l b = (i : ℕ) → Axis i (lease_at before i) l (lease_at b i)

longer : (x : Event) (before : Book) (l : Log) (b : Book) → Stood before l b → Stood before (x ∷ l) b
longer x before l b h i = go (h i)
  where
    go : Axis i (lease_at before i) l (lease_at b i) → Axis i (lease_at before i) (x ∷ l) (lease_at b i)
    go (inl e) = inl e
    go (inr n) = inr (n.0, (n.1.0, inr n.1.1))

stood-fallen : (before : Book) (axis : ℕ) (reason : Reason) (l : Log) (b : Book) → Stood before l b
    → Stood before (Handed (ItemFallback axis reason) ∷ l) (cleared axis b)
unfolding cleared bump_epoch with_epoch with_leases with_active
stood-fallen before axis reason l b h i =
    at_set None (Axis i (lease_at before i) (Handed (ItemFallback axis reason) ∷ l)) b.leases axis None i
    (λ e. inr (refl, (reason, inl (ap (λ (j : ℕ). Handed (ItemFallback j reason)) e))))
    (λ m. longer _ before l b h i)

-- the tick alone, as Keeps takes it: besides, no lease that stands is expired
abbrev Room : Book → Log → Book → Type 0
Room before l b = (b.next_lease ≤ top) × Stood before l b

abbrev Nothing : Log → Book → Type 0
Nothing l b = Unit

abbrev Remains : ℕ → Book → Log → Book → Answer → Type 0
Remains now before l b a = Stood before l b × Guarded (Settled now (reverse axes)) b

room : (before : Book) → Shared AnyReason Nothing (Room before)
unfolding cleared bump_epoch with_epoch with_leases with_active kept with_next_receipt with_receipts with_state
room before =
    record {
      waits = λ l b h. tt;
      replied = λ r l b h. (h.0, longer _ before l b h.1);
      falls = λ axis reason l b any h. (h.0, stood-fallen before axis reason l b h.1);
      records = λ r l b quiet h. (h.0, longer _ before l b h.1);
      trips = λ reason l b h. h;
    }

remains : (now : ℕ) (b : Book) → b.next_lease ≤ top → Safe Nothing (Remains now b) [] (tick now b (λ b'. Done b' Returned))
unfolding with_state with_last_tick
remains now b fits =
    keeps-tick (Remains now b) (room b) (λ reason q. tt) (λ x l b' h. h) (λ l b' h. h.0) now (λ l b' h. h) _
    (λ l b' h settled. (h.1, settled)) tt [] b (fits, λ i. inl refl)

-- and as the state's facts go through it
abbrev Leaves : Start → ℕ → Book → Log → Book → Answer → Type 0
Leaves s now before l b a = Tidy s b × Ticked now (Supervised now before) b

leaves : (s : Start) (now : ℕ) (b : Book) → Tidy s b → Safe (Seen s) (Leaves s now b) [] (tick now b (λ b'. Done b' Returned))
leaves s now b h = after-tick s (Leaves s now b) now [] b _ h (λ l b' h' k. (h', k))

-- ---- what that says of a lease

stood-before : (i : ℕ) (was : Option Lease) (l : Log) (o : Option Lease) (x : Lease) → Axis i was l o → o ≡ Some x → was ≡ Some x
stood-before i was l o x (inl q) e = sym q ∙ e
stood-before i was l o x (inr n) e = not-both n.0 e

fallen : (i : ℕ) (was : Option Lease) (l : Log) (o : Option Lease) → Axis i was l o → was ≢ None → o ≡ None → (r : Reason) × Mem (Handed (ItemFallback i r)) l
fallen i was l o (inl q) n e = absurd (n (sym q ∙ e))
fallen i was l o (inr m) n e = m.1

still-none : (before : Book) (l : Log) (b : Book) → Stood before l b → NoLease before → NoLease b
still-none before l b h empty i = go (h i)
  where
    go : Axis i (lease_at before i) l (lease_at b i) → lease_at b i ≡ None
    go (inl e) = e ∙ empty i
    go (inr n) = n.0

unexpired-at : (now : ℕ) (o : Option Lease) (x : Lease) → o ≡ Some x → Unexpired now o → now < x.expires_at
unfolding Unexpired
unexpired-at now o x e h = rw e at h

armed-ready : (b : Book) → b.state ≡ State.Armed → is_ready b.state ≡ true
unfolding is_ready
armed-ready b e = rw e

module _ (s : Start) (now : ℕ) (before after : Book) (tidy : Tidy s before) (l : Log) (stood : Stood before l after)
    (settled : Guarded (Settled now (reverse axes)) after) (calm : Calm s after) (ticked : Ticked now (Supervised now before) after) where
  -- no lease stands, unless the tick found the runtime supervised
  unless : (Supervised now before → NoLease after) → NoLease after
  unless f = go (is_ready after.state) refl
    where
      go : (t : Bool) → is_ready after.state ≡ t → NoLease after
      go true e = f (ticked.ready e).1
      go false e = calm.1 e

  unwatched : before.config.watchdog_ms < now - before.last_tick → NoLease after
  unwatched over = unless (λ k. still-none before l after stood (unarmed s before tidy.0 (λ e. late (k.1 e))))
    where
      late : now - before.last_tick ≤ before.config.watchdog_ms → ⊥
      late h = omega arith

  back : now < before.last_tick → NoLease after
  back h = unless (λ k. absurd (early k.0))
    where
      early : before.last_tick ≤ now → ⊥
      early k = omega arith

  unexpired : (axis : ℕ) (x : Lease) → lease_at after axis ≡ Some x → now < x.expires_at
  unexpired axis x e =
      let up = armed-ready after (armed-by s after calm (axis, x, e)) in
      unexpired-at now (lease_at after axis) x e ((settled up).fresh axis (mem-reverse axis axes [] (inl (on-axis s after calm.0.0 axis x e))))

  revoked : (items : List Item) → ((i : Item) → Mem (Handed i) l → Mem i items) → Revoked now before items after
  revoked items shown =
      record {
        stood = λ axis x e. stood-before axis (lease_at before axis) l (lease_at after axis) x (stood axis) e;
        unexpired = unexpired;
        armed = armed-by s after calm;
        fell-back = λ axis n e. let r = fallen axis (lease_at before axis) l (lease_at after axis) (stood axis) n e in (r.0, shown _ r.1);
        watchdog = unwatched;
        clock = back;
      }

pub revokes : {replies : List Reply} {items : List Item} (s : Start) (now : ℕ) (before after : Book) → Tidy s before
    → Runs (tick now before (λ b. Done b Returned)) replies items (Done after Returned) → Revoked now before items after
revokes {items = items} s now before after tidy w =
    let t = tick now before (λ b. Done b Returned) in
    let both = safe-both (Seen s) Nothing (Leaves s now before) (Remains now before) [] t (leaves s now before tidy) (remains now before tidy.0.0.0.fits) in
    let end = safe-end (λ l b. Seen s l b × Nothing l b) (λ l b a. Leaves s now before l b a × Remains now before l b a) [] w both in
    let d = end.1.0 in
    revoked s now before after tidy end.0 d.1.0 d.1.1 d.0.0.0 d.0.1 items (λ i m. since i (end.1.1 i m))
  where
    since : (i : Item) → Mem (Handed i) [] ⊎ Mem i items → Mem i items
    since i (inl m) = absurd m
    since i (inr m) = m

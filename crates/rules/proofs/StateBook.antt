-- What holds of state, leases, flags and times in every book that a reading shows, and more of it between calls; and that each step on the
-- book keeps it. Assumes nothing.
use Prim.Native.Nat.{ℕ, zero, suc, ◌<◌, ◌≤◌}
use mathlib.Core.Bool.{Bool, true, false, cond, ◌||◌, false≢true, true≢false}
use mathlib.Core.List.{List, [], ◌∷◌}
use mathlib.Core.Logic.{inl, inr, ◌≢◌}
use Rattle.std.specs.Prelude.{Option, Some, None}
use Rattle.std.proofs.lemmas.Option.{none-some}
use mathlib.Core.Path.{◌≡◌, refl, sym, ap, ◌∙◌, subst}
use native.Mathlib.Omega.{arith}
use borrow.Author.Tests.{eqb-true, eq-eqb}
use lib.Dec.{eqb}
use lib.ListN.{length, length-set, get_or, set, replicate}
use Rattle.model.specs.declared.Capability.{Capability}
use Rattle.model.specs.declared.Config.{Config}
use Rattle.model.specs.declared.Lease.{Lease}
use Rattle.model.specs.declared.Reason.{Reason}
use Rattle.model.specs.declared.Receipt.{Receipt}
use Rattle.model.specs.declared.RuntimeState.{RuntimeState}
use Rattle.model.specs.declared.RuntimeState.TheVariants as State
use Rattle.model.specs.Lists.{any}
use Rattle.model.specs.Reasons.{number}
use Rattle.model.specs.Soundness.{axis_used}
use Rattle.rules.specs.Book.{Book, lease_at}
use Rattle.rules.specs.With.{with_leases, with_active, with_receipts, with_next_receipt, with_next_lease, with_epoch, with_flags, with_state_at, with_last_tick, with_state}
use Rattle.rules.specs.Receipts.{top, bump_to, bump, kept}
use Rattle.rules.specs.Admission.{is_armed, is_estopped, is_some, axes}
use Rattle.rules.specs.Rules.{used_axes, bump_epoch, refreshed, refresh_state, cleared, tripped, meets_estop, granted}
use Rattle.rules.specs.Protocol.{Start, opening}
use Rattle.rules.specs.Lists.{Mem}
use Rattle.rules.specs.StateFacts.{LeaseStands, NoLease}
use Rattle.rules.proofs.Axes.{low-axis, mem-used}
use Rattle.rules.proofs.Keeps.{at_set, is_ready, tripped-not-ready}
use Rattle.rules.proofs.Counters.{bump-mono}

-- ---- the invariant

-- a time not after the last tick, unless a counter is at the top
abbrev pub Reached : ℕ → ℕ → ℕ → ℕ → ℕ → Type 0
Reached time epoch next_receipt next_lease last_tick =
    eqb epoch top ≡ false → eqb next_receipt top ≡ false → eqb next_lease top ≡ false → time ≤ last_tick

abbrev pub ReachedIn : ℕ → Book → Type 0
ReachedIn time b = Reached time b.epoch b.next_receipt b.next_lease b.last_tick

-- a lease that stands is on a used axis
abbrev pub OnUsed : List Capability → ℕ → Option Lease → Type 0
OnUsed cs i o = (x : Lease) → o ≡ Some x → axis_used cs i ≡ true

-- a record over the fields that it speaks of, so that a step which touches none of them is the identity
pub record Base (s : Start) (caps : List Capability) (leases : List (Option Lease)) (flags : ℕ) (config : Config) (state : RuntimeState)
    (epoch next_receipt next_lease state_at last_tick : ℕ) : Type 0 where
  pub capabilities : caps ≡ s.capabilities
  pub eight : length leases ≡ 8
  pub used : (i : ℕ) → OnUsed s.capabilities i (get_or leases i None)
  pub mask : meets_estop flags config ≡ true → state ≡ State.Estopped
  pub stamp : Reached state_at epoch next_receipt next_lease last_tick
  pub fits : next_lease ≤ top

abbrev pub BaseOf : Start → Book → Type 0
BaseOf s b =
    Base s b.capabilities b.leases b.flags b.config b.state b.epoch b.next_receipt b.next_lease b.state_at b.last_tick

-- what a reading may see: no lease stands in SafeIdle
abbrev pub Good : Start → Book → Type 0
Good s b = BaseOf s b × (b.state ≡ State.SafeIdle → NoLease b)

-- and none stands where the runtime is not ready
abbrev pub Calm : Start → Book → Type 0
Calm s b = Good s b × (is_ready b.state ≡ false → NoLease b)

-- and one stands where it is Armed: what holds between calls
abbrev pub Tidy : Start → Book → Type 0
Tidy s b = Calm s b × (b.state ≡ State.Armed → LeaseStands b)

-- ---- counters

-- a counter at the top stays there
bump-top : bump top ≡ top
unfolding bump_to
bump-top = refl

pub not_top : (n : ℕ) → eqb (bump n) top ≡ false → eqb n top ≡ false
not_top n h = go (eqb n top) refl
  where
    go : (t : Bool) → eqb n top ≡ t → t ≡ false
    go true e = absurd (true≢false (sym (eq-eqb (bump n) top (ap bump (eqb-true n top e) ∙ bump-top)) ∙ h))
    go false e = refl

bump-fits : (n : ℕ) → n ≤ top → bump n ≤ top
bump-fits n h = subst (λ m. bump n ≤ m) bump-top (bump-mono n top h)

-- ---- states

tripped-estopped : (reason : Reason) (x : RuntimeState) → x ≡ State.Estopped → tripped reason x ≡ State.Estopped
unfolding tripped is_estopped
tripped-estopped reason x e = rw e (go (eqb (number reason) (number Reason.Estop)))
  where
    go : (t : Bool) → cond (t || true) State.Estopped State.Faulted ≡ State.Estopped
    go true = refl
    go false = refl

refreshed-estopped : (t : Bool) (x : RuntimeState) → x ≡ State.Estopped → refreshed t x ≡ State.Estopped
unfolding refreshed
refreshed-estopped t x e = rw e

pub refreshed-ready : (t : Bool) (x : RuntimeState) → is_ready (refreshed t x) ≡ is_ready x
unfolding refreshed is_ready
refreshed-ready true State.SafeIdle = refl
refreshed-ready false State.SafeIdle = refl
refreshed-ready true State.Armed = refl
refreshed-ready false State.Armed = refl
refreshed-ready t State.Faulted = refl
refreshed-ready t State.Estopped = refl

-- unless stopped, the state says whether a lease stands
refreshed-idle : (t : Bool) (x : RuntimeState) → refreshed t x ≡ State.SafeIdle → t ≡ false
unfolding refreshed is_armed is_ready
refreshed-idle true State.SafeIdle e = ap is_armed e
refreshed-idle true State.Armed e = ap is_armed e
refreshed-idle true State.Faulted e = absurd (false≢true (ap is_ready e))
refreshed-idle true State.Estopped e = absurd (false≢true (ap is_ready e))
refreshed-idle false x e = refl

refreshed-armed : (t : Bool) (x : RuntimeState) → refreshed t x ≡ State.Armed → t ≡ true
unfolding refreshed is_armed
refreshed-armed false State.SafeIdle e = ap is_armed e
refreshed-armed false State.Armed e = ap is_armed e
refreshed-armed false State.Faulted e = ap is_armed e
refreshed-armed false State.Estopped e = ap is_armed e
refreshed-armed true x e = refl

-- ---- leases

none-stands : (ls : List (Option Lease)) → any is_some ls ≡ false → (i : ℕ) → get_or ls i None ≡ None
unfolding is_some
none-stands [] e i = refl
none-stands (None ∷ ls) e zero = refl
none-stands (None ∷ ls) e (suc i) = none-stands ls e i
none-stands (Some x ∷ ls) e i = absurd (true≢false e)

one-stands : (ls : List (Option Lease)) → any is_some ls ≡ true → (i : ℕ) × (x : Lease) × (get_or ls i None ≡ Some x)
unfolding is_some
one-stands [] e = absurd (false≢true e)
one-stands (None ∷ ls) e = let r = one-stands ls e in (suc r.0, r.1, r.2)
one-stands (Some x ∷ ls) e = (zero, x, refl)

-- a lease stands or none does
pub not-both : {A : Type 0} {o : Option Lease} {x : Lease} → o ≡ None → o ≡ Some x → A
not-both {x = x} n e = absurd (none-some x (sym n ∙ e))

-- no lease stands in the opening book
abbrev vacant : Option Lease
vacant = None

opening-vacant : (n i : ℕ) → get_or (replicate n vacant) i vacant ≡ vacant
opening-vacant zero i = refl
opening-vacant (suc n) zero = refl
opening-vacant (suc n) (suc i) = opening-vacant n i

-- ---- a fallback, a receipt, a trip, and the state made anew

base-cleared : (s : Start) (axis : ℕ) (b : Book) → BaseOf s b → BaseOf s (cleared axis b)
unfolding cleared bump_epoch with_epoch with_leases with_active
base-cleared s axis b h =
    record {
      capabilities = h.capabilities;
      eight = length-set b.leases axis None ∙ h.eight;
      used = λ i. at_set None (OnUsed s.capabilities i) b.leases axis None i (λ e x q. absurd (none-some x q)) (λ m. h.used i);
      mask = h.mask;
      stamp = λ p. h.stamp (not_top _ p);
      fits = h.fits;
    }

none-cleared : (axis : ℕ) (b : Book) → NoLease b → NoLease (cleared axis b)
unfolding cleared bump_epoch with_epoch with_leases with_active
none-cleared axis b h i = at_set None (λ o. o ≡ None) b.leases axis None i (λ e. refl) (λ m. h i)

pub good-cleared : (s : Start) (axis : ℕ) (b : Book) → Good s b → Good s (cleared axis b)
unfolding cleared bump_epoch with_epoch with_leases with_active
good-cleared s axis b h = (base-cleared s axis b h.0, λ e. none-cleared axis b (h.1 e))

pub calm-cleared : (s : Start) (axis : ℕ) (b : Book) → Calm s b → Calm s (cleared axis b)
unfolding cleared bump_epoch with_epoch with_leases with_active
calm-cleared s axis b h = (good-cleared s axis b h.0, λ e. none-cleared axis b (h.1 e))

pub good-kept : (s : Start) (r : Receipt) (b : Book) → Good s b → Good s (kept r b)
unfolding kept with_next_receipt with_receipts
good-kept s r b h =
    let f = h.0 in (
      record { capabilities = f.capabilities; eight = f.eight; used = f.used; mask = f.mask; stamp = λ p q. f.stamp p (not_top _ q); fits = f.fits },
      h.1,
    )

pub calm-kept : (s : Start) (r : Receipt) (b : Book) → Calm s b → Calm s (kept r b)
unfolding kept with_next_receipt with_receipts
calm-kept s r b h = (good-kept s r b h.0, h.1)

pub tidy-kept : (s : Start) (r : Receipt) (b : Book) → Tidy s b → Tidy s (kept r b)
unfolding kept with_next_receipt with_receipts
tidy-kept s r b h = (calm-kept s r b h.0, h.1)

-- another state, Estopped where a bit of the stop mask stands in the flags
base-stated : (s : Start) (x : RuntimeState) (b : Book) → (meets_estop b.flags b.config ≡ true → x ≡ State.Estopped) → BaseOf s b
    → BaseOf s (with_state x b)
unfolding with_state
base-stated s x b m h = record { capabilities = h.capabilities; eight = h.eight; used = h.used; mask = m; stamp = h.stamp; fits = h.fits }

good-stopped : (s : Start) (x : RuntimeState) (b : Book) → is_ready x ≡ false
    → (meets_estop b.flags b.config ≡ true → x ≡ State.Estopped) → BaseOf s b → Good s (with_state x b)
unfolding with_state is_ready
good-stopped s x b down m h = (base-stated s x b m h, λ e. absurd (true≢false (sym (ap is_ready e) ∙ down)))

pub good-tripped : (s : Start) (reason : Reason) (b : Book) → Good s b → Good s (with_state (tripped reason b.state) b)
good-tripped s reason b h =
    good-stopped s _ b (tripped-not-ready reason b.state) (λ e. tripped-estopped reason b.state (h.0.mask e)) h.0

pub tidy-refreshed : (s : Start) (b : Book) → BaseOf s b → (is_ready b.state ≡ false → NoLease b) → Tidy s (refresh_state b)
unfolding refresh_state with_state
tidy-refreshed s b h down =
    let t = any is_some b.leases in (
      (
        (
          base-stated s _ b (λ e. refreshed-estopped t b.state (h.mask e)) h,
          λ e. none-stands b.leases (refreshed-idle t b.state e),
        ),
        λ e. down (sym (refreshed-ready t b.state) ∙ e),
      ),
      λ e. one-stands b.leases (refreshed-armed t b.state e),
    )

-- a stopped runtime is not Armed
pub tidy-down : (s : Start) (b : Book) → Calm s b → is_ready b.state ≡ false → Tidy s b
unfolding is_ready
tidy-down s b h down = (h, λ e. absurd (true≢false (sym (ap is_ready e) ∙ down)))

-- ---- times and flags

pub base-ticked : (s : Start) (now : ℕ) (b : Book) → b.last_tick ≤ now → BaseOf s b → BaseOf s (with_last_tick now b)
unfolding with_last_tick
base-ticked s now b later h =
    record {
      capabilities = h.capabilities;
      eight = h.eight;
      used = h.used;
      mask = h.mask;
      stamp = λ p q r. omega (arith, h.stamp p q r);
      fits = h.fits;
    }

pub tidy-stamped : (s : Start) (now : ℕ) (b : Book) → ReachedIn now b → Tidy s b → Tidy s (with_state_at now b)
unfolding with_state_at
tidy-stamped s now b reached h =
    let f = h.0.0.0 in (
      (
        (record { capabilities = f.capabilities; eight = f.eight; used = f.used; mask = f.mask; stamp = reached; fits = f.fits }, h.0.0.1),
        h.0.1,
      ),
      h.1,
    )

pub good-bumped : (s : Start) (b : Book) → Good s b → Good s (bump_epoch b)
unfolding bump_epoch with_epoch
good-bumped s b h =
    let f = h.0 in (
      record { capabilities = f.capabilities; eight = f.eight; used = f.used; mask = f.mask; stamp = λ p. f.stamp (not_top _ p); fits = f.fits },
      h.1,
    )

-- other flags, with a state that may stand beside them
base-flagged : (s : Start) (flags : ℕ) (x : RuntimeState) (b : Book) → (meets_estop flags b.config ≡ true → x ≡ State.Estopped) → BaseOf s b
    → BaseOf s (with_state x (with_flags flags b))
unfolding with_state with_flags
base-flagged s flags x b m h = record { capabilities = h.capabilities; eight = h.eight; used = h.used; mask = m; stamp = h.stamp; fits = h.fits }

-- any flags, beside the state that a stop sets
pub good-marked : (s : Start) (flags : ℕ) (b : Book) → BaseOf s b → Good s (with_state (tripped Reason.Estop b.state) (with_flags flags b))
unfolding with_state with_flags tripped is_ready
good-marked s flags b h = (base-flagged s flags State.Estopped b (λ e. refl) h, λ e. absurd (false≢true (ap is_ready e)))

-- flags without a bit of the stop mask
pub good-unmarked : (s : Start) (flags : ℕ) (b : Book) → meets_estop flags b.config ≡ false → Good s b → Good s (with_flags flags b)
unfolding with_state with_flags
good-unmarked s flags b m h = (base-flagged s flags b.state b (λ e. absurd (true≢false (sym e ∙ m))) h.0, h.1)

-- a state that is neither Armed nor against the mask, where no lease stands
pub tidy-emptied : (s : Start) (x : RuntimeState) (b : Book) → is_armed x ≡ false → (meets_estop b.flags b.config ≡ true → x ≡ State.Estopped)
    → BaseOf s b → NoLease b → Tidy s (with_state x b)
unfolding with_state is_armed
tidy-emptied s x b idle m h empty =
    (((base-stated s x b m h, λ e. empty), λ e. empty), λ e. absurd (true≢false (sym (ap is_armed e) ∙ idle)))

-- ---- leases given, and changed

pub tidy-granted : (s : Start) (x : Lease) (b : Book) → is_ready b.state ≡ true → axis_used s.capabilities x.resource ≡ true → BaseOf s b
    → Tidy s (granted x b)
unfolding granted bump_epoch with_epoch with_leases with_next_lease
tidy-granted s x b up on h =
    tidy-refreshed s _
    (record {
      capabilities = h.capabilities;
      eight = length-set b.leases x.resource (Some x) ∙ h.eight;
      used = λ i. at_set None (OnUsed s.capabilities i) b.leases x.resource (Some x) i (λ e y q. rw e on) (λ m. h.used i);
      mask = h.mask;
      stamp = λ p q r. h.stamp (not_top _ p) q (not_top _ r);
      fits = bump-fits b.next_lease h.fits;
    })
    (λ e. absurd (true≢false (sym up ∙ e)))

-- a lease in the place of one that stands
pub tidy-replaced : (s : Start) (axis : ℕ) (x y : Lease) (b : Book) → lease_at b axis ≡ Some x → Tidy s b
    → Tidy s (with_leases (set b.leases axis (Some y)) b)
unfolding with_leases
tidy-replaced s axis x y b at h =
    let f = h.0.0.0 in (
      (
        (
          record {
            capabilities = f.capabilities;
            eight = length-set b.leases axis (Some y) ∙ f.eight;
            used = λ i. at_set None (OnUsed s.capabilities i) b.leases axis (Some y) i (λ e z q. rw e (f.used axis x at)) (λ m. f.used i);
            mask = f.mask;
            stamp = f.stamp;
            fits = f.fits;
          },
          λ e. not-both (h.0.0.1 e axis) at,
        ),
        λ e. not-both (h.0.1 e axis) at,
      ),
      λ e. (axis, y, at_set None (λ o. o ≡ Some y) b.leases axis (Some y) axis (λ e. refl) (λ m. not-both (m refl) at)),
    )

-- ---- the opening book

pub tidy-opening : (s : Start) → Tidy s (opening s)
unfolding opening is_ready is_armed
tidy-opening s = (
  (
    (
      record {
        capabilities = refl;
        eight = refl;
        used = λ i x e. not-both (opening-vacant 8 i) e;
        mask = λ e. rw e;
        stamp = λ p q r. omega arith;
        fits = omega arith;
      },
      λ e. opening-vacant 8,
    ),
    λ e. opening-vacant 8,
  ),
  λ e. absurd (not-armed (meets_estop s.flags s.config) e),
)
  where
    not-armed : (t : Bool) → cond t State.Estopped State.SafeIdle ≡ State.Armed → ⊥
    not-armed true e = false≢true (ap is_armed e)
    not-armed false e = false≢true (ap is_armed e)

-- ---- the used axes

inside : (ls : List (Option Lease)) (i : ℕ) (x : Lease) → get_or ls i None ≡ Some x → i < length ls
inside [] i x e = absurd (none-some x e)
inside (o ∷ ls) zero x e = omega arith
inside (o ∷ ls) (suc i) x e = omega (arith, inside ls i x e)

-- every lease stands on one of these axes
abbrev pub OnlyOn : List ℕ → Book → Type 0
OnlyOn is b = (i : ℕ) (x : Lease) → lease_at b i ≡ Some x → Mem i is

-- a lease stands on one of the eight axes
pub on-axis : (s : Start) (b : Book) → BaseOf s b → OnlyOn axes b
on-axis s b h i x e = low-axis i (omega (arith, inside b.leases i x e, h.eight))

-- and on a used one, so that fallbacks on these leave none
pub only-used : (s : Start) (b : Book) → BaseOf s b → OnlyOn (used_axes b.capabilities) b
only-used s b h i x e = rw h.capabilities (mem-used s.capabilities i (h.used i x e) (on-axis s b h i x e))

pub only-cleared : (axis : ℕ) (is : List ℕ) (b : Book) → OnlyOn (axis ∷ is) b → OnlyOn is (cleared axis b)
unfolding cleared bump_epoch with_epoch with_leases with_active
only-cleared axis is b h i x =
    at_set None (λ o. o ≡ Some x → Mem i is) b.leases axis None i (λ e q. absurd (none-some x q)) (λ m q. go m q (h i x q))
  where
    go : (i ≡ axis → lease_at b i ≡ None) → lease_at b i ≡ Some x → Mem i (axis ∷ is) → Mem i is
    go m q (inl e) = not-both (m e) q
    go m q (inr n) = n

pub only_kept : (is : List ℕ) (r : Receipt) (b : Book) → OnlyOn is b → OnlyOn is (kept r b)
unfolding kept with_next_receipt with_receipts
only_kept is r b h = h

pub only_none : (b : Book) → OnlyOn [] b → NoLease b
only_none b h i = go (lease_at b i) refl
  where
    go : (o : Option Lease) → lease_at b i ≡ o → o ≡ None
    go None e = refl
    go (Some x) e = absurd (h i x e)

-- ---- a lease and the state

-- where a lease stands between calls, the runtime is Armed
pub armed-by : (s : Start) (b : Book) → Calm s b → LeaseStands b → b.state ≡ State.Armed
unfolding is_ready
armed-by s b h stands = go b.state refl
  where
    go : (x : RuntimeState) → b.state ≡ x → x ≡ State.Armed
    go State.SafeIdle e = not-both (h.0.1 e stands.0) stands.2
    go State.Armed e = refl
    go State.Faulted e = not-both (h.1 (rw e) stands.0) stands.2
    go State.Estopped e = not-both (h.1 (rw e) stands.0) stands.2

pub unarmed : (s : Start) (b : Book) → Calm s b → b.state ≢ State.Armed → NoLease b
unarmed s b h n axis = go (lease_at b axis) refl
  where
    go : (o : Option Lease) → lease_at b axis ≡ o → o ≡ None
    go None e = refl
    go (Some x) e = absurd (n (armed-by s b h (axis, x, e)))

-- What the looks over a lent runtime find in the tables of its state, a step at a time. Assumes nothing.
use Prim.Native.Nat.{ℕ, zero, suc, ◌+◌, ◌-◌, ◌*◌, ◌/◌, ◌%◌, ◌^◌, ◌<◌, ◌≤◌, min, max}
use mathlib.Core.Bool.{Bool, true, false, not, cond, false≢true}
use mathlib.Core.List.{List, [], ◌∷◌}
use mathlib.Core.Logic.{inl, inr}
use Rattle.std.specs.Prelude.{Option, Some, None}
use mathlib.Core.Path.{◌≡◌, refl, sym, ap, ap₂, ◌∙◌}
use native.Mathlib.Decide.{dec_le}
use native.Mathlib.Nat.{zero-lt-suc, mod-lt}
use native.Mathlib.Numerals.{add-one}
use native.Mathlib.Omega.{arith}
use borrow.Author.Tests.{lt-leb, lt-ltb}
use lib.Arith.{bin_ind, digits_mod}
use lib.Bits.{bit_or, or_step, or_shr, or_zero_r}
use lib.Dec.{T, leb, ltb, eqb}
use lib.ListN.{length, get_or, take, drop, drop_of_length-le}
use lib.Seq.{length-take-le, drop-cons, get_or-take}
use Rattle.model.specs.declared.Active.{Active}
use Rattle.model.specs.declared.Capability.{Capability}
use Rattle.model.specs.declared.Lease.{Lease}
use Rattle.model.specs.declared.Presence.{Presence}
use Rattle.model.specs.declared.Presence.TheVariants.{Absent, Present}
use Rattle.model.specs.declared.Replay.{Replay}
use Rattle.model.specs.declared.ReplaySlot.{ReplaySlot}
use Rattle.model.specs.Records.{no_lease, no_active, no_capability, no_replay}
use Rattle.model.specs.Words.{permits}
use Rattle.model.proofs.Meaning.{sound-id}
use Rattle.rules.specs.Admission.{allowed, find_entry, holds_of, is_entry, is_held_by, is_some, with_id}
use Rattle.rules.specs.Lists.{Mem}
use Rattle.rules.specs.Rules.{due, receipt_number}
use Rattle.replay.specs.Ring.{entries_of, hit_in, is_hit, slots_of}
use Rattle.replay.proofs.Search.{hit, miss, over}
use Rattle.state.specs.Axes.{first_or8, first_from, first_due, first_forbidden}
use Rattle.state.specs.State.{lease_in, active_in}
use Rattle.state.proofs.Axes.{select-hit, select-miss, select-end}
use Rattle.decide_order.specs.Orders.{entry_if, entry_in}
use Rattle.decide_resume.specs.Searches.{ShowsSought}
use Rattle.decide_resume.specs.declared.Sought.{Sought}
use Rattle.decide_resume.specs.declared.Sought.TheVariants.{Due, Forbidden, Nothing}
use Rattle.decide_tick.specs.Ticks.{lease_end, order_end}
use Rattle.runtime.specs.declared.Runtime.{Runtime}
use Rattle.runtime.specs.Promises.{Kept, Good, SoonestIn, FoundIn, EntryIn, hit_of, HitIn}
use Rattle.runtime.specs.Runtimes.{ring_in, tables_in}
use Rattle.runtime.proofs.Slots.{shown-at}

-- what a branch on a test says
missed : (t : Bool) → T (not t) → t ≡ false
missed true n = absurd n
missed false n = refl

hits : (t : Bool) → T (not (not t)) → t ≡ true
hits true n = refl
hits false n = absurd n

-- what can't be: a place within a bound and past it
pub either_way : {X : Type 0} {i n : ℕ} → i < n → n ≤ i → X
either_way low past = absurd (omega (arith, low, past))

-- a slot of a table, the spare one included
module _ (h : Runtime) (k : Kept h) (i : ℕ) where
  pub lease-low : i < 9 → i < length h.leases
  lease-low low = rw k.sized.leases low

  pub order-low : i < 9 → i < length h.active
  order-low low = rw k.sized.active low

  pub record-low : i < 17 → i < length h.capabilities
  record-low low = rw k.sized.capabilities low

  pub slot-low : i < 65 → i < length h.slots
  slot-low low = rw k.sized.slots low

-- a search over the axes -------------------------------------------------------------------------------------------------

module _ (p : ℕ → Bool) (i : ℕ) where
  module _ {t : Bool} (low : i < 8) (e : p i ≡ t) where
    pub first_on : T (not t) → first_from p (i + 1) ≡ first_from p i
    unfolding first_from
    first_on n = sym (ap first_or8 (select-miss p i low (e ∙ missed t n)))

    pub first-here : T (not (not t)) → i ≡ first_from p i
    unfolding first_from first_or8
    first-here y = sym (ap first_or8 (select-hit p i low (e ∙ hits t y)))

  pub first_past : i ≤ 8 → 8 ≤ i → i ≡ first_from p i
  unfolding first_from first_or8
  first_past within past = let e : i ≡ 8 = omega (arith, within, past) in e ∙ sym (ap first_or8 (select-end p i past))

first-none : (p : ℕ → Bool) → ((axis : ℕ) → p axis ≡ false) → (n i : ℕ) → i ≤ 8 → 8 - i ≡ n → first_from p i ≡ 8
first-none p k zero i within e = let z : i ≡ 8 = omega (arith, within, e) in sym (first_past p i within (omega (arith, e))) ∙ z
first-none p k (suc n) i within e =
    sym (first_on p i (omega (arith, e)) (k i) tt) ∙ first-none p k n (i + 1) (omega (arith, e)) (omega (arith, e))

-- the tests
abbrev pub due_at : Runtime → ℕ → ℕ → Bool
due_at h time axis = is_some (due time (get_or (tables_in h).leases axis None) (get_or (tables_in h).active axis None))

abbrev pub forbidden_at : Runtime → ℕ → ℕ → Bool
forbidden_at h flags axis = holds_of (get_or (tables_in h).active axis None) (λ a. not (permits a.capability flags))

abbrev pub held_at : Runtime → ℕ → ℕ → ℕ → Bool
held_at h owner id axis = holds_of (get_or (tables_in h).leases axis None) (is_held_by owner id)

module _ (h : Runtime) (good : Good h) where
  -- .. by what stands in the slots
  module _ (i : ℕ) (low : i < 8) where
    pub low-lease : i < length h.leases
    low-lease = rw good.kept.sized.leases (omega (arith, low))

    pub low-order : i < length h.active
    low-order = rw good.kept.sized.active (omega (arith, low))

    lease-at : get_or (tables_in h).leases i None ≡ lease_in (get_or h.leases i no_lease)
    lease-at = shown-at lease_in no_lease 8 h.leases i low (rw good.kept.sized.leases (omega (arith, low)))

    order-at : get_or (tables_in h).active i None ≡ active_in (get_or h.active i no_active)
    order-at = shown-at active_in no_active 8 h.active i low (rw good.kept.sized.active (omega (arith, low)))

    pub due-at : (time : ℕ)
        → due_at h time i ≡ is_some (due time (lease_in (get_or h.leases i no_lease)) (active_in (get_or h.active i no_active)))
    due-at time = rw (lease-at, order-at)

    pub forbidden-at : (flags : ℕ)
        → forbidden_at h flags i ≡ holds_of (active_in (get_or h.active i no_active)) (λ a. not (permits a.capability flags))
    forbidden-at flags = rw order-at

    pub held-at : (owner id : ℕ) → held_at h owner id i ≡ holds_of (lease_in (get_or h.leases i no_lease)) (is_held_by owner id)
    held-at owner id = rw lease-at

  -- nothing is due before `soonest`
  module _ (time : ℕ) (early : time < h.numbers.soonest) where
    stands : {A : Type 0} (ends : A → ℕ) (o : Option A) → ((a : A) → o ≡ Some a → h.numbers.soonest ≤ ends a)
        → holds_of o (λ a. leb (ends a) time) ≡ false
    unfolding holds_of
    stands ends None k = refl
    stands ends (Some a) k = lt-leb (ends a) time (omega (arith, k a refl, early))

    early-axis : (axis : ℕ) → due_at h time axis ≡ false
    unfolding due is_some
    early-axis axis =
        rw (
          stands (λ (l : Lease). l.expires_at) (get_or (tables_in h).leases axis None) (good.sound.counted.leases axis),
          stands (λ (a : Active). a.expires_at) (get_or (tables_in h).active axis None) (good.sound.counted.active axis),
        )

    pub early-none : (i : ℕ) → i ≤ 8 → first_from (due_at h time) 8 ≡ first_from (due_at h time) i
    early-none i within =
        first-none (due_at h time) early-axis 0 8 (omega arith) refl
        ∙ sym (first-none (due_at h time) early-axis (8 - i) i within refl)

  -- what is sought, by what was found
  pub sought-due : (s : Sought) → s ≡ Due → (from time flags r : ℕ) → r ≡ first_due time (tables_in h).leases (tables_in h).active from
      → ShowsSought s from time flags r (get_or h.leases r no_lease) (tables_in h)
  unfolding ShowsSought
  sought-due s e from time flags r first = rw e (record { first = first; shown = λ low. sym (lease-at r low) })

  pub sought-forbidden : (s : Sought) → s ≡ Forbidden → (from time flags r : ℕ) → r ≡ first_forbidden flags (tables_in h).active from
      → ShowsSought s from time flags r (get_or h.leases r no_lease) (tables_in h)
  unfolding ShowsSought
  sought-forbidden s e from time flags r first = rw e first

  pub sought-nothing : (s : Sought) → s ≡ Nothing → (from time flags r : ℕ)
      → ShowsSought s from time flags r (get_or h.leases r no_lease) (tables_in h)
  unfolding ShowsSought
  sought-nothing s e from time flags r = rw e tt

-- the soonest end --------------------------------------------------------------------------------------------------------

-- nothing on the axes before one ends before it
pub record SoonestTo (soonest i : ℕ) (h : Runtime) : Type 0 where
  pub leases : (axis : ℕ) (l : Lease) → axis < i → get_or (tables_in h).leases axis None ≡ Some l → soonest ≤ l.expires_at
  pub active : (axis : ℕ) (a : Active) → axis < i → get_or (tables_in h).active axis None ≡ Some a → soonest ≤ a.expires_at

pub soonest-none : (h : Runtime) (soonest : ℕ) → SoonestTo soonest 0 h
soonest-none h soonest =
    record { leases = λ axis l low e. absurd (omega (arith, low)); active = λ axis a low e. absurd (omega (arith, low)) }

-- one more axis, whose end is this
ends_on : {A : Type 0} (ends : A → ℕ) (end_of : Option A → ℕ) → ((a : A) → end_of (Some a) ≡ ends a)
    → (t : List (Option A)) (o : Option A) (soonest next i : ℕ) → get_or t i None ≡ o → next ≤ soonest → next ≤ end_of o
    → ((axis : ℕ) (a : A) → axis < i → get_or t axis None ≡ Some a → soonest ≤ ends a)
    → (axis : ℕ) (a : A) → axis < i + 1 → get_or t axis None ≡ Some a → next ≤ ends a
ends_on ends end_of is t o soonest next i at s n k axis a low e = by_cases (dec_le i axis)
  where
    by_cases : Dec (i ≤ axis) → next ≤ ends a
    by_cases (yes p) =
        let same : i ≡ axis = omega (arith, p, low) in
        let f : end_of o ≡ ends a = ap end_of (sym at ∙ ap (λ (j : ℕ). get_or t j None) same ∙ e) ∙ is a in
        omega (arith, n, f)
    by_cases (no p) = omega (arith, s, k axis a (omega (arith, p)) e)

some-inside : {A : Type 0} (t : List (Option A)) (i : ℕ) (a : A) → get_or t i None ≡ Some a → i < length t
unfolding is_some
some-inside [] i a e = absurd (false≢true (ap is_some e))
some-inside (x ∷ t) zero a e = omega arith
some-inside (x ∷ t) (suc i) a e = let k = some-inside t i a e in omega (arith, k)

module _ (h : Runtime) (good : Good h) (i soonest : ℕ) where
  pub soonest-on : i < 8 → SoonestTo soonest i h
      → SoonestTo
      (min soonest (min (lease_end (lease_in (get_or h.leases i no_lease))) (order_end (active_in (get_or h.active i no_active))))) (i + 1) h
  unfolding lease_end order_end
  soonest-on low k =
      let a = lease_in (get_or h.leases i no_lease) in
      let b = active_in (get_or h.active i no_active) in
      let next = min soonest (min (lease_end a) (order_end b)) in
      record {
        leases =
            ends_on (λ (l : Lease). l.expires_at) lease_end (λ l. refl) (tables_in h).leases a soonest next i (lease-at h good i low)
            (omega arith) (omega arith) k.leases;
        active =
            ends_on (λ (o : Active). o.expires_at) order_end (λ o. refl) (tables_in h).active b soonest next i (order-at h good i low)
            (omega arith) (omega arith) k.active;
      }

  pub soonest-all : 8 ≤ i → SoonestTo soonest i h → SoonestIn soonest h
  soonest-all past k =
      record {
        leases = λ axis l e. k.leases axis l (inside axis (some-inside (tables_in h).leases axis l e) good.sound.sized.leases) e;
        active = λ axis a e. k.active axis a (inside axis (some-inside (tables_in h).active axis a e) good.sound.sized.active) e;
      }
    where
      inside : (axis : ℕ) {n : ℕ} → axis < n → n ≡ 8 → axis < i
      inside axis l e = omega (arith, l, e, past)

-- a search and a fold over the records ------------------------------------------------------------------------------------

next_of : {A : Type 0} (n : ℕ) (l : List A) (i : ℕ) (d : A) → n ≤ length l → i < n
    → drop i (take n l) ≡ get_or l i d ∷ drop (i + 1) (take n l)
next_of n l i d few low = rw (add-one, ← get_or-take n l i d low) (drop-cons (take n l) i d (rw (length-take-le n l few) low))

mem-at : {A : Type 0} (l : List A) (i : ℕ) (d : A) → i < length l → Mem (get_or l i d) l
mem-at [] i d h = absurd (omega arith)
mem-at (a ∷ l) zero d h = inl refl
mem-at (a ∷ l) (suc i) d h = inr (mem-at l i d (omega arith))

-- `|`, a digit at a time
digit : (a b : ℕ) → bit_or a b % 2 ≡ max (a % 2) (b % 2)
digit a b =
    ap (λ (x : ℕ). x % 2) (or_step a b)
    ∙ digits_mod (bit_or (a / 2) (b / 2)) (omega (arith, mod-lt a (zero-lt-suc 1), mod-lt b (zero-lt-suc 1)))

max_assoc : (x y z : ℕ) → max (max x y) z ≡ max x (max y z)
max_assoc x y z = omega arith

or_assoc : (a b c : ℕ) → bit_or (bit_or a b) c ≡ bit_or a (bit_or b c)
or_assoc =
    bin_ind (λ (n : ℕ). (b c : ℕ) → bit_or (bit_or n b) c ≡ bit_or n (bit_or b c)) (λ b c. refl) λ n ih b c.
    or_step (bit_or n b) c
    ∙ ap₂ (λ (x y : ℕ). bit_or x (c / 2) * 2 + max y (c % 2)) (or_shr n b 1) (digit n b)
    ∙ ap₂ (λ (x y : ℕ). x * 2 + y) (ih (b / 2) (c / 2)) (max_assoc (n % 2) (b % 2) (c % 2))
    ∙ sym (or_step n (bit_or b c) ∙ ap₂ (λ (x y : ℕ). bit_or (n / 2) x * 2 + max (n % 2) y) (or_shr b c 1) (digit b c))

-- a record taken into the bits, or left out
bits_of : (t : Bool) (mask bit rest : ℕ) → bit_or (cond t (bit_or mask bit) mask) rest ≡ bit_or mask (cond t (bit_or bit rest) rest)
bits_of true mask bit rest = or_assoc mask bit rest
bits_of false mask bit rest = refl

-- the records from a place on
abbrev pub records_from : Runtime → ℕ → List Capability
records_from h i = drop i (tables_in h).capabilities

module _ (h : Runtime) (good : Good h) (i : ℕ) where
  abbrev in_hand : Capability
  in_hand = get_or h.capabilities i no_capability

  fewer : h.fixed.count ≤ length h.capabilities
  fewer = rw good.kept.sized.capabilities (omega (arith, good.kept.placed.count))

  pub low-place : i < h.fixed.count → i < length h.capabilities
  low-place low = omega (arith, low, fewer)

  pub place_inside : i < h.fixed.count → i < 17
  place_inside low = omega (arith, low, good.kept.placed.count)

  pub place-fits : i < h.fixed.count → i + 1 < 2 ^ 64
  place-fits low = omega (arith, low, good.kept.placed.count)

  here : i < h.fixed.count → records_from h i ≡ in_hand ∷ records_from h (i + 1)
  here low = next_of h.fixed.count h.capabilities i no_capability fewer low

  none_left : h.fixed.count ≤ i → records_from h i ≡ []
  none_left past =
      drop_of_length-le (tables_in h).capabilities {i = i} (rw (length-take-le h.fixed.count h.capabilities fewer) past)

  module _ (id : ℕ) where
    abbrev named : Bool
    named = eqb in_hand.id id

    pub place-on : i < h.fixed.count → T (not named)
        → with_id id (records_from h (i + 1)) ≡ with_id id (records_from h i)
    unfolding with_id
    place-on low n = rw (here low, missed named n)

    pub place_here : i < h.fixed.count → T (not (not named))
        → with_id id (records_from h i) ≡ with_id id (tables_in h).capabilities → FoundIn id i h
    unfolding with_id
    place_here low y k =
        record { inside = place_inside low; found = sym k ∙ first ∙ rw (lt-ltb i 16 (omega (arith, low, good.kept.placed.count))) }
      where
        first : with_id id (records_from h i) ≡ Some in_hand
        first = rw (here low, hits named y)

    pub place-past : h.fixed.count ≤ i → with_id id (records_from h i) ≡ with_id id (tables_in h).capabilities → FoundIn id 16 h
    unfolding with_id
    place-past past k = record { inside = omega arith; found = sym k ∙ ap (with_id id) (none_left past) }

  module _ (axis mask : ℕ) where
    pub mask-on : (r : ℕ) → i < h.fixed.count
        → (in_hand.id < 64 → r ≡ cond (eqb in_hand.resource axis) (bit_or mask (2 ^ in_hand.id)) mask)
        → bit_or mask (allowed (records_from h i) axis) ≡ allowed (tables_in h).capabilities axis
        → bit_or r (allowed (records_from h (i + 1)) axis) ≡ allowed (tables_in h).capabilities axis
    unfolding allowed
    mask-on r low e k =
        ap (λ (m : ℕ). bit_or m (allowed (records_from h (i + 1)) axis)) (e numbered)
        ∙ bits_of (eqb in_hand.resource axis) mask (2 ^ in_hand.id) (allowed (records_from h (i + 1)) axis)
        ∙ ap (λ (l : List Capability). bit_or mask (allowed l axis)) (sym (here low))
        ∙ k
      where
        among : Mem in_hand (tables_in h).capabilities
        among =
            rw (get_or-take h.fixed.count h.capabilities i no_capability low)
            at (mem-at (tables_in h).capabilities i no_capability (rw (length-take-le h.fixed.count h.capabilities fewer) low))

        numbered : in_hand.id < 64
        numbered = omega (arith, (sound-id _ (good.sound.checked.each _ among)).1)

    pub mask-all : h.fixed.count ≤ i → bit_or mask (allowed (records_from h i) axis) ≡ allowed (tables_in h).capabilities axis
        → mask ≡ allowed (tables_in h).capabilities axis
    unfolding allowed
    mask-all past k = sym (or_zero_r mask) ∙ sym (ap (λ (l : List Capability). bit_or mask (allowed l axis)) (none_left past)) ∙ k

-- the replay ring --------------------------------------------------------------------------------------------------------

-- the entries from a place backwards on
abbrev pub entries_from : Runtime → ℕ → List Replay
entries_from h i = entries_of (drop i (slots_of (ring_in h)))

-- the slot that stands so many before the newest
abbrev pub place_before : Runtime → ℕ → ℕ
place_before h i = (h.cursor + 31 - i) % 32

hit-as : (owner action : ℕ) (p : Presence) (e : Replay) → hit_in owner action p e ≡ holds_of (entry_if p e) (is_entry owner action)
unfolding hit_in holds_of
hit-as owner action Absent e = refl
hit-as owner action Present e = refl

module _ (h : Runtime) (good : Good h) (owner action i : ℕ) where
  slots-32 : length (take 32 h.replay) ≡ 32
  slots-32 = length-take-le 32 h.replay (rw good.kept.sized.replay (omega arith))

  below-32 : place_before h i < 32
  below-32 = mod-lt (h.cursor + 31 - i) (zero-lt-suc 31)

  slot_at : get_or (take 32 h.replay) (place_before h i) no_replay ≡ get_or h.replay (place_before h i) no_replay
  slot_at = get_or-take 32 h.replay (place_before h i) no_replay below-32

  abbrev is_entry_at : Bool
  is_entry_at = holds_of (entry_in (get_or h.replay (place_before h i) no_replay)) (is_entry owner action)

  is-hit : is_hit owner action (get_or (take 32 h.replay) (place_before h i) no_replay) ≡ is_entry_at
  is-hit = rw slot_at (hit-as owner action _ _)

  pub entry-on : i < 32 → T (not is_entry_at)
      → find_entry owner action (entries_from h (i + 1)) ≡ find_entry owner action (entries_from h i)
  entry-on low n =
      sym (miss owner action 31 (take 32 h.replay) slots-32 h.cursor good.kept.placed.replay.within i low (is-hit ∙ missed _ n))

  pub entry_here : i < 32 → T (not (not is_entry_at))
      → find_entry owner action (entries_from h i) ≡ find_entry owner action (tables_in h).replay → EntryIn owner action (place_before h i) h
  entry_here low y k =
      record {
        inside = omega (arith, below-32);
        found =
            sym k
            ∙ hit owner action 31 (take 32 h.replay) slots-32 h.cursor good.kept.placed.replay.within i low (is-hit ∙ hits _ y)
            ∙ ap (λ (s : ReplaySlot). Some s.replay) slot_at
            ∙ rw (lt-ltb (place_before h i) 32 below-32);
      }

  pub entry_past : 32 ≤ i → find_entry owner action (entries_from h i) ≡ find_entry owner action (tables_in h).replay → EntryIn owner action 32 h
  entry_past past k =
      record {
        inside = omega arith;
        found = sym k ∙ over owner action 31 (take 32 h.replay) slots-32 h.cursor good.kept.placed.replay.within i past;
      }

-- .. where it is wanted
hit-in : (t : Bool) (o : Option Replay) (e : Replay) → o ≡ cond t (Some e) None
    → (t ≡ is_some o) × (cond t e.receipt 0 ≡ receipt_number o)
unfolding is_some receipt_number
hit-in true o e k = rw k (refl, refl)
hit-in false o e k = rw k (refl, refl)

module _ (h : Runtime) (owner action : ℕ) where
  pub hit-wanted : (wanted : Bool) → T wanted → (at : ℕ) → EntryIn owner action at h
      → HitIn wanted owner action (hit_of at (get_or h.replay at no_replay).replay.receipt) h
  hit-wanted true w at f =
      let k = hit-in (ltb at 32) (find_entry owner action (tables_in h).replay) (get_or h.replay at no_replay).replay f.found in
      record { found = λ e. k.0; receipt = λ e. k.1; unwanted = λ e. absurd (false≢true (sym e)) }
  hit-wanted false w at f = absurd w

  pub hit-unwanted : (wanted : Bool) → T (not wanted) → HitIn wanted owner action (hit_of 32 0) h
  hit-unwanted true n = absurd n
  hit-unwanted false n = record { found = λ e. absurd (false≢true e); receipt = λ e. absurd (false≢true e); unwanted = λ e. refl }

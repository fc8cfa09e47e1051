-- What the looks over lent words find, a turn of a loop at a time: what the laws of runtime say, where the runtime is good. Assumes nothing.
use Prim.Native.Nat.{ℕ, ◌+◌, ◌-◌, ◌%◌, ◌^◌, ◌<◌, ◌≤◌, min}
use mathlib.Core.Bool.{Bool, true, false, not, cond}
use mathlib.Core.List.{List}
use mathlib.Core.Path.{◌≡◌, refl, sym, ap, ap₂, ◌∙◌, subst}
use native.Mathlib.Omega.{arith}
use lib.Bits.{bit_or}
use lib.Dec.{T, eqb}
use lib.ListN.{get_or}
use Rattle.model.specs.Records.{no_lease, no_active, no_capability, no_replay}
use Rattle.model.specs.Words.{permits}
use Rattle.model.specs.declared.ActiveSlot.{ActiveSlot}
use Rattle.model.specs.declared.Capability.{Capability}
use Rattle.model.specs.declared.LeaseSlot.{LeaseSlot}
use Rattle.model.specs.declared.Presence.{Presence}
use Rattle.model.specs.declared.Presence.TheVariants.{Absent, Present}
use Rattle.model.specs.declared.Replay.{Replay}
use Rattle.model.specs.declared.ReplaySlot.{ReplaySlot}
use Rattle.rules.specs.Admission.{allowed, find_entry, holds_of, is_entry, is_held_by, is_some, with_id}
use Rattle.rules.specs.Rules.{due}
use Rattle.replay.specs.Ring.{hit_in, is_hit}
use Rattle.state.specs.Axes.{first_from, first_due, first_forbidden}
use Rattle.state.specs.State.{lease_in, active_in}
use Rattle.state.specs.declared.Fixed.{Fixed}
use Rattle.state.specs.declared.Numbers.{Numbers}
use Rattle.decide_order.specs.Orders.{entry_if, entry_in}
use Rattle.decide_resume.specs.Searches.{ShowsSought}
use Rattle.decide_resume.specs.declared.Sought.{Sought}
use Rattle.decide_resume.specs.declared.Sought.TheVariants.{Due, Forbidden, Nothing}
use Rattle.decide_tick.specs.Ticks.{lease_end, order_end}
use Rattle.rows.specs.Rows.{fixed_of}
use Rattle.rows.proofs.Codes.{below_less}
use Rattle.runtime.specs.declared.Hit.{Hit}
use Rattle.runtime.specs.declared.Runtime.{Runtime}
use Rattle.runtime.specs.Promises.{Good, FoundIn, EntryIn, hit_of, HitIn}
use Rattle.runtime.specs.Runtimes.{tables_in}
use Rattle.runtime.proofs.Looks.{first_on, first-here, first_past, due-at, forbidden-at, held-at, early-none, sought-due, sought-forbidden, sought-nothing, SoonestTo, soonest-on, records_from, place-on, place_here, place-past, mask-on, mask-all, entries_from, place_before, entry-on, entry_here, entry_past, hit-wanted, hit-unwanted}
use Rattle.layout.specs.Layout.{runtime_in}
use Rattle.host_store.specs.Looks.{due_at, forbidden_at, held_at}

-- what a branch on a test says
holds : {b : Bool} → b ≡ true → T b
holds e = subst T (sym e) tt

fails : {b : Bool} → b ≡ false → T (not b)
fails e = holds (ap not e)

-- an axis ----------------------------------------------------------------------------------------------------------------

module _ (h : Runtime) (axis : ℕ) (low : axis < 8) (lease : LeaseSlot) (active : ActiveSlot) (r : Bool) where
  pub due-here : (time : ℕ) → lease ≡ get_or h.leases axis no_lease → active ≡ get_or h.active axis no_active
      → r ≡ is_some (due time (lease_in lease) (active_in active)) → Good h → r ≡ due_at h time axis
  due-here time l a e good =
      e ∙ ap₂ (λ (x : LeaseSlot) (y : ActiveSlot). is_some (due time (lease_in x) (active_in y))) l a ∙ sym (due-at h good axis low time)

module _ (h : Runtime) (axis : ℕ) (low : axis < 8) (r : Bool) where
  pub forbidden-there : (active : ActiveSlot) (flags : ℕ) → active ≡ get_or h.active axis no_active
      → r ≡ holds_of (active_in active) (λ a. not (permits a.capability flags)) → Good h → r ≡ forbidden_at h flags axis
  forbidden-there active flags l e good =
      e ∙ ap (λ (x : ActiveSlot). holds_of (active_in x) (λ a. not (permits a.capability flags))) l ∙ sym (forbidden-at h good axis low flags)

  pub held-there : (lease : LeaseSlot) (owner id : ℕ) → lease ≡ get_or h.leases axis no_lease
      → r ≡ holds_of (lease_in lease) (is_held_by owner id) → Good h → r ≡ held_at h owner id axis
  held-there lease owner id l e good =
      e ∙ ap (λ (x : LeaseSlot). holds_of (lease_in x) (is_held_by owner id)) l ∙ sym (held-at h good axis low owner id)

-- a search over the axes that has come to one of them
pub record Seeks (h : Runtime) (p : ℕ → Bool) (start i : ℕ) : Type 0 where
  pub within : i ≤ 8
  pub so_far : Good h → first_from p i ≡ first_from p start

module _ {h : Runtime} {p : ℕ → Bool} {start i : ℕ} (s : Seeks h p start i) where
  pub seeks-on : (r : Bool) → i < 8 → (Good h → r ≡ p i) → not r ≡ true → Seeks h p start (i + 1)
  seeks-on r low e n =
      record { within = omega (arith, low); so_far = λ good. first_on p i low (sym (e good)) (holds n) ∙ s.so_far good }

  pub seeks-here : (r : Bool) → i < 8 → (Good h → r ≡ p i) → not r ≡ false → (Good h → i ≡ first_from p start) × (i < 9)
  seeks-here r low e y = (λ good. first-here p i low (sym (e good)) (fails y) ∙ s.so_far good, omega (arith, low))

  pub seeks-past : 8 ≤ i → (Good h → i ≡ first_from p start) × (i < 9)
  seeks-past past = (λ good. first_past p i s.within past ∙ s.so_far good, let k = s.within in omega (arith, k))

pub seeks-from : (h : Runtime) (p : ℕ → Bool) (start : ℕ) → start ≤ 8 → Seeks h p start start
seeks-from h p start low = record { within = low; so_far = λ good. refl }

-- nothing is due before the soonest end
pub seeks-none : (h : Runtime) (time start : ℕ) (numbers : Numbers) → numbers ≡ h.numbers → start ≤ 8 → time < numbers.soonest
    → Seeks h (due_at h time) start 8
seeks-none h time start numbers e low early =
    record { within = omega arith; so_far = λ good. early-none h good time (rw e at early) start low }

-- what is sought
module _ (h : Runtime) (s : Sought) (start time flags r : ℕ) where
  pub due-sought : s ≡ Due → (Good h → r ≡ first_due time (tables_in h).leases (tables_in h).active start) × (r < 9)
      → (Good h → ShowsSought s start time flags r (get_or h.leases r no_lease) (tables_in h)) × (r < 9)
  due-sought e k = (λ good. sought-due h good s e start time flags r (k.0 good), k.1)

  pub forbidden-sought : s ≡ Forbidden → (Good h → r ≡ first_forbidden flags (tables_in h).active start) × (r < 9)
      → (Good h → ShowsSought s start time flags r (get_or h.leases r no_lease) (tables_in h)) × (r < 9)
  forbidden-sought e k = (λ good. sought-forbidden h good s e start time flags r (k.0 good), k.1)

  pub nothing-sought : s ≡ Nothing → Good h → ShowsSought s start time flags r (get_or h.leases r no_lease) (tables_in h)
  nothing-sought e good = sought-nothing h good s e start time flags r

-- the soonest end --------------------------------------------------------------------------------------------------------

pub soonest-then : (h : Runtime) (i soonest r : ℕ) (lease : LeaseSlot) (active : ActiveSlot) → i < 8
    → lease ≡ get_or h.leases i no_lease → active ≡ get_or h.active i no_active
    → r ≡ min soonest (min (lease_end (lease_in lease)) (order_end (active_in active)))
    → (Good h → SoonestTo soonest i h) → Good h → SoonestTo r (i + 1) h
soonest-then h i soonest r lease active low l a e k good =
    subst (λ (x : ℕ). SoonestTo x (i + 1) h)
    (sym (e ∙ ap₂ (λ (x : LeaseSlot) (y : ActiveSlot). min soonest (min (lease_end (lease_in x)) (order_end (active_in y)))) l a))
    (soonest-on h good i soonest low (k good))

-- the records ------------------------------------------------------------------------------------------------------------

-- how many there are is below 17, whatever the words hold
pub few : (w : List ℕ) → (runtime_in w).fixed.count < 17
unfolding runtime_in fixed_of
few w = below_less 17 _ (omega arith)

pub count-few : (w : List ℕ) (fixed : Fixed) → fixed ≡ (runtime_in w).fixed → fixed.count < 17
count-few w fixed e = subst (λ (f : Fixed). f.count < 17) (sym e) (few w)

module _ (h : Runtime) (fixed : Fixed) (is : fixed ≡ h.fixed) (i : ℕ) where
  counted : fixed.count ≡ h.fixed.count
  counted = ap (λ (f : Fixed). f.count) is

  module _ (id : ℕ) (k : Good h → with_id id (records_from h i) ≡ with_id id (tables_in h).capabilities) where
    pub place-then : (r : Bool) → i < fixed.count → r ≡ eqb (get_or h.capabilities i no_capability).id id → not r ≡ true
        → Good h → with_id id (records_from h (i + 1)) ≡ with_id id (tables_in h).capabilities
    place-then r low e n good = place-on h good i id (omega (arith, low, counted)) (subst (λ (b : Bool). T (not b)) e (holds n)) ∙ k good

    pub place_found : (r : Bool) → i < fixed.count → r ≡ eqb (get_or h.capabilities i no_capability).id id → not r ≡ false
        → Good h → FoundIn id i h
    place_found r low e y good =
        place_here h good i id (omega (arith, low, counted)) (subst (λ (b : Bool). T (not (not b))) e (fails y)) (k good)

    pub place_none : fixed.count ≤ i → Good h → FoundIn id 16 h
    place_none past good = place-past h good i id (omega (arith, past, counted)) (k good)

  module _ (axis mask : ℕ) (k : Good h → bit_or mask (allowed (records_from h i) axis) ≡ allowed (tables_in h).capabilities axis) where
    pub mask-then : (r : ℕ) (capability : Capability) → i < fixed.count → capability ≡ get_or h.capabilities i no_capability
        → (capability.id < 64 → r ≡ cond (eqb capability.resource axis) (bit_or mask (2 ^ capability.id)) mask)
        → Good h → bit_or r (allowed (records_from h (i + 1)) axis) ≡ allowed (tables_in h).capabilities axis
    mask-then r capability low c e good =
        mask-on h good i axis mask r (omega (arith, low, counted))
        (subst (λ (x : Capability). x.id < 64 → r ≡ cond (eqb x.resource axis) (bit_or mask (2 ^ x.id)) mask) c e)
        (k good)

    pub mask-whole : fixed.count ≤ i → Good h → mask ≡ allowed (tables_in h).capabilities axis
    mask-whole past good = mask-all h good i axis mask (omega (arith, past, counted)) (k good)

-- the replay ring --------------------------------------------------------------------------------------------------------

hit-as : (owner action : ℕ) (p : Presence) (e : Replay) → holds_of (entry_if p e) (is_entry owner action) ≡ hit_in owner action p e
unfolding hit_in holds_of
hit-as owner action Absent e = refl
hit-as owner action Present e = refl

pub hit-there : (l : List ReplaySlot) (at place : ℕ) (slot : ReplaySlot) (r : Bool) (owner action : ℕ)
    → at ≡ place → slot ≡ get_or l at no_replay → r ≡ holds_of (entry_in slot) (is_entry owner action)
    → r ≡ is_hit owner action (get_or l place no_replay)
hit-there l at place slot r owner action p s e =
    e
    ∙ hit-as owner action slot.presence slot.replay
    ∙ ap (is_hit owner action) (s ∙ ap (λ (n : ℕ). get_or l n no_replay) p)

module _ (h : Runtime) (cursor : ℕ) (is : cursor ≡ h.cursor) (owner action i : ℕ)
    (k : Good h → find_entry owner action (entries_from h i) ≡ find_entry owner action (tables_in h).replay) where
  entry_at : (r : Bool) → r ≡ is_hit owner action (get_or h.replay ((cursor + 31 - i) % 32) no_replay)
      → r ≡ holds_of (entry_in (get_or h.replay (place_before h i) no_replay)) (is_entry owner action)
  entry_at r e =
      e
      ∙ ap (λ (c : ℕ). is_hit owner action (get_or h.replay ((c + 31 - i) % 32) no_replay)) is
      ∙ sym (hit-as owner action _ _)

  pub entry-then : (r : Bool) → i < 32 → r ≡ is_hit owner action (get_or h.replay ((cursor + 31 - i) % 32) no_replay) → not r ≡ true
      → Good h → find_entry owner action (entries_from h (i + 1)) ≡ find_entry owner action (tables_in h).replay
  entry-then r low e n good = entry-on h good owner action i low (subst (λ (b : Bool). T (not b)) (entry_at r e) (holds n)) ∙ k good

  pub entry_found : (r : Bool) (at : ℕ) → i < 32 → r ≡ is_hit owner action (get_or h.replay ((cursor + 31 - i) % 32) no_replay)
      → not r ≡ false → at ≡ (cursor + 31 - i) % 32 → Good h → EntryIn owner action at h
  entry_found r at low e y a good =
      subst (λ (n : ℕ). EntryIn owner action n h) (sym (a ∙ ap (λ (c : ℕ). (c + 31 - i) % 32) is))
      (entry_here h good owner action i low (subst (λ (b : Bool). T (not (not b))) (entry_at r e) (fails y)) (k good))

  pub entry-none : 32 ≤ i → Good h → EntryIn owner action 32 h
  entry-none past good = entry_past h good owner action i past (k good)

-- .. where it is wanted
module _ (h : Runtime) (owner action at : ℕ) (slot : ReplaySlot) (there : slot ≡ get_or h.replay at no_replay) (r : Hit)
    (is : r ≡ hit_of at slot.replay.receipt) (wanted : Bool) where
  pub wanted-hit : wanted ≡ true → (Good h → EntryIn owner action at h) → Good h → HitIn wanted owner action r h
  wanted-hit w k good =
      subst (λ (x : Hit). HitIn wanted owner action x h) (sym (is ∙ ap (λ (s : ReplaySlot). hit_of at s.replay.receipt) there))
      (hit-wanted h owner action wanted (holds w) at (k good))

  pub unwanted-hit : wanted ≡ false → at ≡ 32 → HitIn wanted owner action r h
  unwanted-hit w a =
      subst (λ (x : Hit). HitIn wanted owner action x h) (sym (is ∙ ap (λ (n : ℕ). hit_of n slot.replay.receipt) a))
      (hit-unwanted h owner action wanted (fails w))

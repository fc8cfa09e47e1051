-- A receipt recorded where a runtime stands, given what a decision says of it. Assumes nothing.
use Prim.Native.Nat.{ℕ, ◌<◌}
use mathlib.Core.Bool.{Bool, false}
use mathlib.Core.List.{List}
use Rattle.std.specs.Prelude.{None}
use mathlib.Core.Path.{◌≡◌, sym, ap, ◌∙◌, subst}
use native.Mathlib.Omega.{arith}
use lib.ListN.{length, get_or, set, length-set}
use lib.Seq.{get_or-set_other}
use Rattle.model.specs.declared.ActiveSlot.{ActiveSlot}
use Rattle.model.specs.declared.LeaseSlot.{LeaseSlot}
use Rattle.model.specs.declared.Receipt.{Receipt}
use Rattle.model.specs.Records.{no_lease, no_active}
use Rattle.rules.specs.Protocol.{Item, ItemObserve, ItemExecute, ItemFallback, ItemRecord, Output, Started, StartRefused, Hands, Answers, Reminds, Refuses, Shows, NoRuntime, Reaction}
use Rattle.rules.specs.Receipts.{rejected}
use Rattle.state.specs.State.{lease_in, active_in, State, item_at, output_of, reaction_of, Sound, Moves}
use Rattle.state.specs.Stores.{recorded}
use Rattle.state.specs.declared.AfterRecord.{AfterRecord}
use Rattle.state.specs.declared.Answer.TheVariants as Answer
use Rattle.state.specs.declared.Numbers.{Numbers}
use Rattle.state.specs.declared.Revoked.{Revoked}
use Rattle.decide_start.specs.declared.Stage.TheVariants as Stage
use Rattle.runtime.specs.declared.Placement.{Placement}
use Rattle.runtime.specs.declared.Runtime.{Runtime}
use Rattle.runtime.specs.Kept.{oldest_rejected, oldest_other, PlacesAs, placed_in, filled_in}
use Rattle.runtime.specs.Promises.{Kept, MovesIn, PlacesIn}
use Rattle.runtime.specs.Runtimes.{state_in}
use Rattle.runtime.proofs.Records.{records, records-placed, records-sized}

-- the kind of the receipt that is handed out; where none is, whichever
unfoldable pub kind_at : Item → Bool
kind_at (ItemObserve axis) = false
kind_at (ItemExecute capability parameters) = false
kind_at (ItemFallback axis reason) = false
kind_at (ItemRecord r) = rejected r

unfoldable pub kind_in : Output → Bool
kind_in Started = false
kind_in (StartRefused n) = false
kind_in (Hands i) = kind_at i
kind_in (Answers a) = false
kind_in (Reminds n i) = false
kind_in (Refuses n) = false
kind_in (Shows v) = false
kind_in NoRuntime = false

abbrev pub kind_of : Reaction → Bool
kind_of x = kind_in x.output

-- what a rule hands out is the receipt that is stored
told-kind : (x : Receipt) (after : AfterRecord) (s : State) (y : Reaction) → reaction_of Answer.Item (recorded x after s) ≡ y → rejected x ≡ kind_of y
unfolding reaction_of output_of item_at recorded kind_in kind_at
told-kind x after s y e = ap kind_of e

placed-so : (m : Runtime) (k : Kept m) (s : m.starting.stage ≡ Stage.Started) (x : Receipt) (p : Placement) (after : AfterRecord)
    → PlacesAs m.places.index (rejected x) (oldest_rejected m) (oldest_other m) p → (y : Reaction) → Moves (recorded x after (state_in m)) Answer.Item y
    → MovesIn (filled_in p.slot x (placed_in p after m)) Answer.Item y
placed-so m k s x p after q y v =
    let e = records m k.sized k.placed x p q after in
    record {
      reaction = ap (reaction_of Answer.Item) e ∙ v.reaction;
      good =
          record {
            kept =
                record {
                  sized = records-sized m k.sized k.placed x p q after;
                  placed = records-placed m k.sized k.placed x p q after;
                };
            sound = subst Sound (sym e) v.sound;
            started = s;
          };
    }

pub recorded-in : (m : Runtime) (k : Kept m) (s : m.starting.stage ≡ Stage.Started) (x : Receipt) (kind : Bool) (after : AfterRecord) (z : Runtime) (slot : ℕ) → PlacesIn kind after m z slot
    → (y : Reaction) → kind_of y ≡ kind → Moves (recorded x after (state_in m)) Answer.Item y → MovesIn (filled_in slot x z) Answer.Item y
recorded-in m k s x kind after z slot p y e v =
    let is : rejected x ≡ kind = told-kind x after (state_in m) y v.reaction ∙ e in
    subst (λ (at : ℕ). MovesIn (filled_in at x z) Answer.Item y) (sym p.slot)
    (subst (λ (h : Runtime). MovesIn (filled_in p.placement.slot x h) Answer.Item y) (sym p.stored)
    (placed-so m k s x p.placement after
    (subst (λ (b : Bool). PlacesAs m.places.index b (oldest_rejected m) (oldest_other m) p.placement) (sym is) p.places) y v))

-- what stands before a receipt is recorded -------------------------------------------------------------------------------

-- other numbers, axis, revoked lease, leases and orders
abbrev pub altered : Numbers → ℕ → Revoked → List LeaseSlot → List ActiveSlot → Runtime → Runtime
altered n axis v ls os rt =
    record {
      starting = rt.starting;
      waiting = rt.waiting;
      numbers = n;
      cursor = rt.cursor;
      slot = rt.slot;
      axis = axis;
      why = rt.why;
      falling = rt.falling;
      revoked = v;
      carrying = rt.carrying;
      pending = rt.pending;
      fixed = rt.fixed;
      places = rt.places;
      leases = ls;
      active = os;
      capabilities = rt.capabilities;
      replay = rt.replay;
      submission = rt.submission;
      request = rt.request;
      renewal = rt.renewal;
      submitted = rt.submitted;
      slots = rt.slots;
    }

-- another element stands there as it did
pub set_other : {A : Type 0} (l : List A) (i j : ℕ) (x d : A) → i < j → get_or (set l i x) j d ≡ get_or l j d
set_other l i j x d h = get_or-set_other l i j x d (λ e. absurd (omega (arith, h, e)))

module _ (h : Runtime) (k : Kept h) (n : Numbers) (axis : ℕ) (v : Revoked) where
  kept-with : (ls : List LeaseSlot) (os : List ActiveSlot) → length ls ≡ 9 → lease_in (get_or ls 8 no_lease) ≡ None
      → length os ≡ 9 → active_in (get_or os 8 no_active) ≡ None → Kept (altered n axis v ls os h)
  kept-with ls os sized spare sized' spare' =
      record {
        sized =
            record {
              leases = sized;
              active = sized';
              capabilities = k.sized.capabilities;
              replay = k.sized.replay;
              rejected = k.sized.rejected;
              others = k.sized.others;
              slots = k.sized.slots;
              lease = spare;
              order = spare';
            };
        placed =
            record {
              count = k.placed.count;
              slot = k.placed.slot;
              capability = k.placed.capability;
              replay = k.placed.replay;
              receipts = k.placed.receipts;
            };
      }

  -- the tables as they are
  pub kept-numbers : Kept (altered n axis v h.leases h.active h)
  kept-numbers = kept-with h.leases h.active k.sized.leases k.sized.lease k.sized.active k.sized.order

  -- a slot stored that is shown
  pub kept-lease : (i : ℕ) (x : LeaseSlot) → i < 8 → Kept (altered n axis v (set h.leases i x) h.active h)
  kept-lease i x b =
      kept-with (set h.leases i x) h.active (length-set h.leases i x ∙ k.sized.leases)
      (ap lease_in (set_other h.leases i 8 x no_lease b) ∙ k.sized.lease) k.sized.active k.sized.order

  pub kept-order : (i : ℕ) (x : ActiveSlot) → i < 8 → Kept (altered n axis v h.leases (set h.active i x) h)
  kept-order i x b =
      kept-with h.leases (set h.active i x) k.sized.leases k.sized.lease (length-set h.active i x ∙ k.sized.active)
      (ap active_in (set_other h.active i 8 x no_active b) ∙ k.sized.order)

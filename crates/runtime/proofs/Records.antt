-- A receipt recorded in a runtime is recorded by its state, and its places stay sound. Assumes nothing.
use Prim.Native.Nat.{ℕ, zero, suc, ◌<◌}
use mathlib.Core.Bool.{Bool, true, false, cond}
use mathlib.Core.List.{List, [], ◌∷◌}
use mathlib.Core.Path.{◌≡◌, refl, sym, ◌∙◌}
use native.Mathlib.Omega.{arith}
use lib.ListN.{length, get_or, set, take, length-set}
use lib.Seq.{take-set-le, take-set-lt}
use Rattle.model.specs.Records.{no_receipt}
use Rattle.model.specs.declared.Receipt.{Receipt}
use Rattle.receipts.specs.declared.Pushed.{Pushed}
use Rattle.receipts.specs.Indexes.{Stores, Keeps, stored}
use Rattle.rules.specs.Receipts.{rejected}
use Rattle.state.specs.declared.AfterRecord.{AfterRecord}
use Rattle.state.specs.Stores.{recorded}
use Rattle.runtime.specs.declared.Placement.{Placement}
use Rattle.runtime.specs.declared.Places.{Places}
use Rattle.runtime.specs.declared.Runtime.{Runtime}
use Rattle.runtime.specs.Kept.{oldest_rejected, oldest_other, PlacesAs, placed_in, filled_in}
use Rattle.runtime.specs.Runtimes.{stores_of, state_in, Sized, Placed}

-- an element of what is shown of a list
shown-elem : {A : Type 0} (n : ℕ) (l : List A) (i : ℕ) (d : A) → i < n → get_or (take n l) i d ≡ get_or l i d
shown-elem zero l i d h = absurd (omega arith)
shown-elem (suc n) [] i d h = refl
shown-elem (suc n) (a ∷ l) zero d h = refl
shown-elem (suc n) (a ∷ l) (suc i) d h = shown-elem n l i d (omega arith)

-- one place stored, the other circle's spare place too, and the receipt in its slot
stores_as : (kind : Bool) (p : Places) (slots : List Receipt) (q : Pushed) (m : Placement) (r : Receipt) → m.slot ≡ q.slot
    → m.rejected_at ≡ cond kind q.place 64 → m.others_at ≡ cond kind 64 q.place → q.place < 64 → q.slot < 64
    → stores_of (record { index = m.index; rejected = set p.rejected m.rejected_at m.slot; others = set p.others m.others_at m.slot })
    (set slots m.slot r)
    ≡ stored q kind (stores_of p slots) r
stores_as true p slots q m r e f g h l =
    rw (e, f, g, take-set-lt 64 p.rejected q.place q.slot h, take-set-le 64 p.others 64 q.slot (omega arith), take-set-lt 64 slots q.slot r l)
stores_as false p slots q m r e f g h l =
    rw (e, f, g, take-set-lt 64 p.others q.place q.slot h, take-set-le 64 p.rejected 64 q.slot (omega arith), take-set-lt 64 slots q.slot r l)

filled_at : {A : Type 0} (l : List A) (i : ℕ) (x d : A) → i < length l → get_or (set l i x) i d ≡ x
filled_at [] i x d h = absurd (omega arith)
filled_at (a ∷ l) zero x d h = refl
filled_at (a ∷ l) (suc i) x d h = filled_at l i x d (omega arith)

module _ (rt : Runtime) (z : Sized rt) (k : Placed rt) (r : Receipt) (p : Placement)
    (m : PlacesAs rt.places.index (rejected r) (oldest_rejected rt) (oldest_other rt) p) (after : AfterRecord) where
  keeps : Keeps rt.places.index (stores_of rt.places rt.slots) (rejected r) m.pushed r
  keeps =
      m.pushes.keeps (stores_of rt.places rt.slots) k.receipts
      (record {
        rejection = sym (shown-elem 64 rt.places.rejected rt.places.index.rejected.head 0 k.receipts.numbered.rejections);
        other = sym (shown-elem 64 rt.places.others rt.places.index.others.head 0 k.receipts.numbered.others);
      })
      r refl

  pub slot-below : p.slot < 64
  slot-below = rw m.slot keeps.below

  stores : ◌≡◌ {A = Stores}
      (stores_of
      (record { index = p.index; rejected = set rt.places.rejected p.rejected_at p.slot; others = set rt.places.others p.others_at p.slot })
      (set rt.slots p.slot r))
      (stored m.pushed (rejected r) (stores_of rt.places rt.slots) r)
  stores = stores_as (rejected r) rt.places rt.slots m.pushed p r m.slot m.rejected m.others m.pushes.inside keeps.below

  abbrev after-it : Runtime
  after-it = filled_in p.slot r (placed_in p after rt)

  pub records : state_in after-it ≡ recorded r after (state_in rt)
  unfolding recorded
  records =
      rw (m.index, stores, keeps.list, filled_at rt.slots p.slot r no_receipt (rw z.slots (omega (arith, slot-below))))

  pub records-placed : Placed after-it
  records-placed =
      record {
        count = k.count;
        slot = omega (arith, slot-below);
        capability = k.capability;
        replay = k.replay;
        receipts = rw (m.index, stores) keeps.sound;
      }

  pub records-sized : Sized after-it
  records-sized =
      record {
        leases = z.leases;
        active = z.active;
        capabilities = z.capabilities;
        replay = z.replay;
        rejected = length-set rt.places.rejected p.rejected_at p.slot ∙ z.rejected;
        others = length-set rt.places.others p.others_at p.slot ∙ z.others;
        slots = length-set rt.slots p.slot r ∙ z.slots;
        lease = z.lease;
        order = z.order;
      }

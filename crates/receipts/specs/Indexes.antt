-- An index over 64 slots: the list of receipts that it denotes, its soundness, and what a push and a look promise.
use Rattle.std.specs.Prelude.{ℕ, ◌+◌, ◌<◌, ◌≤◌, ◌≡◌, Bool, true, false, cond, List, [], map, ltb, length, get_or, set, slice_get, Option, Some, None}
use Rattle.model.specs.Records.{no_receipt}
use Rattle.model.specs.declared.Receipt.{Receipt}
use Rattle.rules.specs.Receipts.{rejected, evict, keep}
use Rattle.receipts.specs.declared.Index.{Index}
use Rattle.receipts.specs.declared.Freed.{Freed}
use Rattle.receipts.specs.declared.Pushed.{Pushed}
use Rattle.receipts.specs.declared.Place.{Place}
use Rattle.receipts.specs.declared.Place.TheVariants.{Rejected, Other}
use Rattle.receipts.specs.Orders.{All, order, Counted, Ordered, Roomy}
use Rattle.receipts.specs.Circles.{slots_of}

-- what stands beside an index: the slot numbers at the places of the two circles, and the receipts in the slots
pub record Stores : Type 0 where
  pub rejections : List ℕ
  pub others : List ℕ
  pub receipts : List Receipt

-- the receipt in a slot
abbrev pub in_slot : Stores → ℕ → Receipt
in_slot st s = get_or st.receipts s no_receipt

abbrev pub rejected_slots : Index → Stores → List ℕ
rejected_slots i st = slots_of i.rejected st.rejections

abbrev pub other_slots : Index → Stores → List ℕ
other_slots i st = slots_of i.others st.others

-- the receipts kept, oldest first
unfoldable pub list_of : Index → Stores → List Receipt
list_of i st = map (in_slot st) (order i.kinds (rejected_slots i st) (other_slots i st))

-- the numbers of an index, by themselves
pub record Numbered (i : Index) : Type 0 where
  pub rejections : i.rejected.head < 64
  pub others : i.others.head < 64
  pub within : i.rejected.count + i.others.count ≤ 64
  pub counted : Counted i.kinds i.rejected.count i.others.count

-- each circle holds slots of its kind
pub record Sorted (i : Index) (st : Stores) : Type 0 where
  pub rejections : All (λ s. rejected (in_slot st s) ≡ true) (rejected_slots i st)
  pub others : All (λ s. rejected (in_slot st s) ≡ false) (other_slots i st)

-- 64 of each
pub record Long (st : Stores) : Type 0 where
  pub rejections : length st.rejections ≡ 64
  pub others : length st.others ≡ 64
  pub receipts : length st.receipts ≡ 64

-- the soundness of an index over what stands beside it: what an empty one has, and every push keeps
pub record Sound (i : Index) (st : Stores) : Type 0 where
  pub numbered : Numbered i
  pub long : Long st
  pub ordered : Ordered 64 i.kinds (rejected_slots i st) (other_slots i st)
  pub sorted : Sorted i st

-- what `Index::empty` promises: whatever stands beside it, no receipt is kept
pub record Opens (i : Index) : Type 0 where
  pub numbered : Numbered i
  pub sound : (st : Stores) → Long st → Sound i st
  pub nothing : (st : Stores) → list_of i st ≡ []

-- the slot numbers at the heads of the two circles
pub record Fronts (i : Index) (st : Stores) (oldest_rejected oldest_other : ℕ) : Type 0 where
  pub rejection : oldest_rejected ≡ get_or st.rejections i.rejected.head 0
  pub other : oldest_other ≡ get_or st.others i.others.head 0

-- room for one more, by the rule
pub record Room (i : Index) (st : Stores) (f : Freed) : Type 0 where
  pub roomy : Roomy 64 f.index.kinds (rejected_slots f.index st) (other_slots f.index st) f.slot
  pub sorted : Sorted f.index st
  pub keeps : list_of f.index st ≡ cond (ltb (length (list_of i st)) 64) (list_of i st) (evict (list_of i st))

-- what `free` promises
pub record Frees (i : Index) (oldest_rejected oldest_other : ℕ) (f : Freed) : Type 0 where
  pub numbered : Numbered f.index
  pub below : f.index.rejected.count + f.index.others.count < 64
  pub room : (st : Stores) → Sound i st → Fronts i st oldest_rejected oldest_other → Room i st f

-- what stands beside the index after a push: the receipt is in its slot, and the slot's number at its place
abbrev pub stored : Pushed → Bool → Stores → Receipt → Stores
stored p is_rejection st r = record {
  rejections = cond is_rejection (set st.rejections p.place p.slot) st.rejections;
  others = cond is_rejection st.others (set st.others p.place p.slot);
  receipts = set st.receipts p.slot r;
}

-- one more receipt, by the rule
pub record Keeps (i : Index) (st : Stores) (is_rejection : Bool) (p : Pushed) (r : Receipt) : Type 0 where
  pub below : p.slot < 64
  pub sound : Sound p.index (stored p is_rejection st r)
  pub list : list_of p.index (stored p is_rejection st r) ≡ keep 64 (list_of i st) r

-- what `push` promises: with the receipt and the slot's number stored, the ring keeps what the rule says
pub record Pushes (i : Index) (is_rejection : Bool) (oldest_rejected oldest_other : ℕ) (p : Pushed) : Type 0 where
  pub numbered : Numbered p.index
  pub inside : p.place < 64
  pub keeps : (st : Stores) → Sound i st → Fronts i st oldest_rejected oldest_other → (r : Receipt) → rejected r ≡ is_rejection
      → Keeps i st is_rejection p r

-- the slot number that an answer of `place_of` points at
abbrev pub slot_at : Option Place → Stores → ℕ
slot_at (Some (Rejected p)) st = get_or st.rejections p 0
slot_at (Some (Other p)) st = get_or st.others p 0
slot_at None st = 0

-- the receipt that it points at
abbrev pub pointed : Option Place → Stores → Option Receipt
pointed (Some p) st = Some (in_slot st (slot_at (Some p) st))
pointed None st = None

abbrev pub Inside : Option Place → Type 0
Inside (Some (Rejected p)) = p < 64
Inside (Some (Other p)) = p < 64
Inside None = Unit {0}

-- what `place_of` promises: the receipt at a place from the oldest, if there is one
pub record Points (i : Index) (at : ℕ) (f : Option Place) : Type 0 where
  pub inside : Inside f
  pub below : (st : Stores) → Sound i st → slot_at f st < 64
  pub reads : (st : Stores) → Sound i st → slice_get (list_of i st) at ≡ pointed f st

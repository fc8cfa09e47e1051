-- The promises of `Index::empty`, `free`, `push`, `place_of` and `Ring::record`, from the steps at 64.
-- Assumes nothing.
use Prim.Native.Nat.{ℕ, ◌+◌, ◌-◌, ◌*◌, ◌/◌, ◌%◌, ◌^◌, ◌<◌, ◌≤◌}
use Prim.Native.Nat.{zero-le}
use native.Mathlib.Numerals.{add-one}
use native.Mathlib.Omega.{arith}
use mathlib.Core.Path.{◌≡◌, refl, sym, ap, ◌∙◌}
use mathlib.Core.Bool.{Bool, true, false, cond}
use mathlib.Core.List.{List, [], ◌∷◌, ◌++◌, map, map-append}
use lib.Count.{ones}
use lib.Dec.{ltb}
use lib.ListN.{length, get_or, set, take, length-set, length-map}
use lib.Seq.{get_or-set_same}
use borrow.Author.Tests.{lt-ltb, le-ltb, eq-eqb, ne_eqb}
use Rattle.std.specs.List.{slice_get}
use Rattle.std.specs.Prelude.{Some, None}
use Rattle.std.proofs.lemmas.Option.{slice_get-get_or, slice_get-map, slice_get_past}
use Rattle.model.specs.Records.{no_receipt}
use Rattle.model.specs.declared.Receipt.{Receipt}
use Rattle.rules.specs.Receipts.{is_rejected, rejected, keep}
use Rattle.receipts.specs.declared.Circle.{Circle}
use Rattle.receipts.specs.declared.Index.{Index}
use Rattle.receipts.specs.declared.Freed.{Freed}
use Rattle.receipts.specs.declared.Pushed.{Pushed}
use Rattle.receipts.specs.declared.Place.TheVariants.{Rejected, Other}
use Rattle.receipts.specs.declared.Ring.{Ring}
use Rattle.receipts.specs.Orders.{order, around, kinds_of, trues, odd, times, one, Top, Counted, Roomy}
use Rattle.receipts.specs.Circles.{slots_of, place_at, longer_by, shorter_by}
use Rattle.receipts.specs.Circles as circles
use Rattle.receipts.specs.Indexes.{Stores, in_slot, rejected_slots, other_slots, list_of, Numbered, Long, Sound, Opens, Fronts, Room, Frees, stored, Keeps, Pushes, Points}
use Rattle.receipts.specs.Rings.{stores_of, Kept, Records}
use Rattle.receipts.proofs.Circles.{next-below, place-below, slots_length, slots-shorter, slots-longer, slot_at}
use Rattle.receipts.proofs.KindBits.{kinds-length, kinds-positive, kind_at, older-at}
use Rattle.receipts.proofs.Merges.{Told, trues-take, before-true, before-false, merge-at}
use Rattle.receipts.proofs.Uses.{times-at, below_of, stored-map, stored-all}
use Rattle.receipts.proofs.Steps.{order-length, counted-rejection, counted-other, counted-dropped, counted-oldest, count-free, Dropped, rejection-dropped, other-dropped, Grown, rejection-grown, other-grown, slot-below, slot-unused, order-unused}

abbrev count : Index → ℕ
count i = i.rejected.count + i.others.count

module _ (i : Index) (st : Stores) where
  pub counts : length (rejected_slots i st) + length (other_slots i st) ≡ count i
  counts = omega (arith, slots_length i.rejected st.rejections, slots_length i.others st.others)

  pub list_length : Sound i st → length (list_of i st) ≡ count i
  unfolding list_of
  list_length s =
      length-map (order i.kinds (rejected_slots i st) (other_slots i st)) (in_slot st)
      ∙ order-length i.kinds (rejected_slots i st) (other_slots i st) s.ordered.counted.told
      ∙ counts

abbrev no_index : Index
no_index = record { rejected = circles.no_slots; others = circles.no_slots; kinds = 0 }

none-counted : Counted 0 0 0
unfolding kinds_of
none-counted = record { small = omega arith; told = refl }

no_index-numbered : Numbered no_index
no_index-numbered = record { rejections = omega arith; others = omega arith; within = omega arith; counted = none-counted }

opens-no_index : Opens no_index
unfolding list_of slots_of around order kinds_of
opens-no_index = record {
  numbered = no_index-numbered;
  sound = λ st l. record {
    numbered = no_index-numbered;
    long = l;
    ordered = record { within = zero-le; counted = none-counted; once = λ s. sym (ap one (le-ltb s 0 zero-le)) };
    sorted = record { rejections = tt; others = tt };
  };
  nothing = λ st. refl;
}

pub opens : (a b : Circle) → a ≡ circles.no_slots → b ≡ circles.no_slots → Opens (record { rejected = a; others = b; kinds = 0 })
opens a b p q = rw (p, q) opens-no_index

-- room for one more --------------------------------------------------------------------------------------------------

pub kinds-set : (i : Index) → Numbered i → 0 < i.rejected.count → 0 < i.kinds
kinds-set i n h = kinds-positive (count i) i.kinds (i.rejected.count - 1) (omega (arith, n.counted.told))

module _ (i : Index) (n : Numbered i) (a b : ℕ) where
  pub frees-count : count i < 64 → Frees i a b (record { index = i; slot = count i })
  frees-count h = record {
    numbered = n;
    below = h;
    room = λ st s q.
        let t : ltb (length (list_of i st)) 64 ≡ true = lt-ltb (length (list_of i st)) 64 (omega (arith, list_length i st s)) in
        record {
          roomy = rw (← counts i st) (count-free 64 i.kinds (rejected_slots i st) (other_slots i st) s.ordered (omega (arith, counts i st)));
          sorted = s.sorted;
          keeps = rw t;
        };
  }

  module _ (full : 64 ≤ count i) where
    room-dropped : (st : Stores) → Sound i st → (f : Freed)
        → Dropped 64 i.kinds (rejected_slots i st) (other_slots i st) f.index.kinds (rejected_slots f.index st) (other_slots f.index st) f.slot
        → Room i st f
    unfolding list_of
    room-dropped st s f d =
        let t : ltb (length (list_of i st)) 64 ≡ false = le-ltb (length (list_of i st)) 64 (omega (arith, list_length i st s)) in
        record {
          roomy = d.roomy;
          sorted = record { rejections = d.rejections (in_slot st) s.sorted.rejections; others = d.others (in_slot st) s.sorted.others };
          keeps = rw t (d.evicted (in_slot st) s.sorted.rejections s.sorted.others);
        }

    pub frees-rejection : 0 < i.rejected.count → (t : ℕ) → Top i.kinds t
        → Frees i a b (record { index = record { rejected = shorter_by i.rejected; others = i.others; kinds = i.kinds - t }; slot = a })
    frees-rejection h t top = record {
      numbered = record {
        rejections = next-below 64 i.rejected.head n.rejections;
        others = n.others;
        within = omega (arith, n.within);
        counted = counted-dropped i.kinds (i.rejected.count - 1) i.others.count t i.rejected.count (omega arith) n.counted top;
      };
      below = omega (arith, n.within);
      room = λ st s q.
          room-dropped st s _
          (rejection-dropped 64 i.kinds (rejected_slots i st) (other_slots i st) a (slots_of (shorter_by i.rejected) st.rejections) t
          (rw q.rejection (slots-shorter i.rejected st.rejections h)) s.ordered top);
    }

    pub frees-other : i.rejected.count ≡ 0
        → Frees i a b (record { index = record { rejected = i.rejected; others = shorter_by i.others; kinds = i.kinds }; slot = b })
    frees-other z = record {
      numbered = record {
        rejections = n.rejections;
        others = next-below 64 i.others.head n.others;
        within = omega (arith, n.within);
        counted = counted-oldest i.kinds i.rejected.count (i.others.count - 1) i.others.count z n.counted;
      };
      below = omega (arith, n.within);
      room = λ st s q.
          room-dropped st s _
          (other-dropped 64 i.kinds (rejected_slots i st) (other_slots i st) b (slots_of (shorter_by i.others) st.others)
          (rw q.other (slots-shorter i.others st.others (omega arith))) (slots_length i.rejected st.rejections ∙ z) s.ordered);
    }

-- one more -----------------------------------------------------------------------------------------------------------

stored-long : (p : Pushed) (kind : Bool) (st : Stores) (r : Receipt) → Long st → Long (stored p kind st r)
stored-long p true st r l = record {
  rejections = length-set st.rejections p.place p.slot ∙ l.rejections;
  others = l.others;
  receipts = length-set st.receipts p.slot r ∙ l.receipts;
}
stored-long p false st r l = record {
  rejections = l.rejections;
  others = length-set st.others p.place p.slot ∙ l.others;
  receipts = length-set st.receipts p.slot r ∙ l.receipts;
}

module _ (i : Index) (a b : ℕ) (f : Freed) (m : Frees i a b f) where
  abbrev rs : Stores → List ℕ
  rs st = rejected_slots f.index st

  abbrev os : Stores → List ℕ
  os st = other_slots f.index st

  module _ (kind : Bool) (p : Pushed) (e : p.slot ≡ f.slot) (n : Numbered p.index) (inside : p.place < 64)
      (grown : (st : Stores) (r : Receipt) → Long st → Roomy 64 f.index.kinds (rs st) (os st) p.slot
      → Grown 64 f.index.kinds (rs st) (os st) p.slot kind p.index.kinds (rejected_slots p.index (stored p kind st r)) (other_slots p.index (stored p kind st r))) where
    module _ (st : Stores) (s : Sound i st) (q : Fronts i st a b) (r : Receipt) (h : rejected r ≡ kind) where
      room : Room i st f
      room = m.room st s q

      roomy : Roomy 64 f.index.kinds (rs st) (os st) p.slot
      roomy = rw e room.roomy

      slot-inside : p.slot < 64
      slot-inside = slot-below 64 f.index.kinds (rs st) (os st) p.slot roomy

      unused : times p.slot (rs st) + times p.slot (os st) ≡ 0
      unused = slot-unused 64 f.index.kinds (rs st) (os st) p.slot roomy

      abbrev after : ℕ → Receipt
      after x = get_or (set st.receipts p.slot r) x no_receipt

      at_slot : after p.slot ≡ r
      at_slot = get_or-set_same st.receipts p.slot r no_receipt (omega (arith, slot-inside, s.long.receipts))

      kind-is : rejected (after p.slot) ≡ kind
      kind-is = ap rejected at_slot ∙ h

      stays-sound : Sound p.index (stored p kind st r)
      stays-sound =
          let g = grown st r s.long roomy in
          record {
            numbered = n;
            long = stored-long p kind st r s.long;
            ordered = g.ordered;
            sorted = record {
              rejections = g.rejections after kind-is (stored-all no_receipt st.receipts p.slot r (λ x. rejected x ≡ true) (rs st) (omega (arith, unused)) room.sorted.rejections);
              others = g.others after kind-is (stored-all no_receipt st.receipts p.slot r (λ x. rejected x ≡ false) (os st) (omega (arith, unused)) room.sorted.others);
            };
          }

      keeps-rule : list_of p.index (stored p kind st r) ≡ keep 64 (list_of i st) r
      unfolding list_of keep
      keeps-rule =
          ap (map after) (grown st r s.long roomy).appended
          ∙ map-append after (order f.index.kinds (rs st) (os st)) (p.slot ∷ [])
          ∙ rw (at_slot, stored-map no_receipt st.receipts p.slot r (order f.index.kinds (rs st) (os st)) (order-unused 64 f.index.kinds (rs st) (os st) p.slot roomy))
          (ap (λ (l : List Receipt). l ++ (r ∷ [])) room.keeps)

    pushes-grown : Pushes i kind a b p
    pushes-grown = record {
      numbered = n;
      inside = inside;
      keeps = λ st s q r h. record { below = slot-inside st s q r h; sound = stays-sound st s q r h; list = keeps-rule st s q r h };
    }

  abbrev rejections : Circle
  rejections = f.index.rejected

  abbrev others : Circle
  others = f.index.others

  abbrev with_rejection : Pushed
  with_rejection = record {
    index = record { rejected = longer_by rejections; others = others; kinds = f.index.kinds * 2 + 1 };
    slot = f.slot;
    place = place_at rejections rejections.count;
  }

  pub pushes-rejection : Pushes i true a b with_rejection
  pushes-rejection =
      pushes-grown true with_rejection refl
      (record {
        rejections = m.numbered.rejections;
        others = m.numbered.others;
        within = omega (arith, m.below);
        counted = counted-rejection f.index.kinds rejections.count others.count (rejections.count + 1) (add-one rejections.count) m.numbered.counted;
      })
      (place-below rejections rejections.count m.numbered.rejections (omega (arith, m.below)))
      (λ st r l y.
      rw (slots-longer rejections st.rejections m.numbered.rejections f.slot l.rejections (omega (arith, m.below)))
      (rejection-grown 64 f.index.kinds (rs st) (os st) f.slot y))

  abbrev with_other : Pushed
  with_other = record {
    index = record { rejected = rejections; others = longer_by others; kinds = f.index.kinds * 2 };
    slot = f.slot;
    place = place_at others others.count;
  }

  pub pushes-other : Pushes i false a b with_other
  pushes-other =
      pushes-grown false with_other refl
      (record {
        rejections = m.numbered.rejections;
        others = m.numbered.others;
        within = omega (arith, m.below);
        counted = counted-other f.index.kinds rejections.count others.count (others.count + 1) (add-one others.count) m.numbered.counted;
      })
      (place-below others others.count m.numbered.others (omega (arith, m.below)))
      (λ st r l y.
      rw (slots-longer others st.others m.numbered.others f.slot l.others (omega (arith, m.below)))
      (other-grown 64 f.index.kinds (rs st) (os st) f.slot y))

-- the receipt at a place ---------------------------------------------------------------------------------------------

pub points_none : (i : Index) (at : ℕ) → count i ≤ at → Points i at None
points_none i at h = record { inside = tt; below = λ st s. omega arith; reads = λ st s. slice_get_past (list_of i st) at (omega (arith, list_length i st s)) }

module _ (i : Index) (n : Numbered i) (at : ℕ) (h : at < count i) where
  abbrev newer : ℕ
  newer = count i - 1 - at

  abbrev upto : ℕ
  upto = i.kinds / 2 ^ newer

  abbrev older : ℕ
  older = ones (upto / 2)

  abbrev kinds : List Bool
  kinds = kinds_of (count i) i.kinds

  kind-at-place : get_or kinds at false ≡ odd upto
  kind-at-place = kind_at (count i) at newer i.kinds (omega arith)

  older-is : trues (take at kinds) ≡ older
  older-is = older-at (count i) at newer i.kinds (omega arith) n.counted.small

  pub older-le : older ≤ at
  older-le = omega (arith, older-is, trues-take at kinds)

  in-kinds : at < length kinds
  in-kinds = omega (arith, kinds-length (count i) i.kinds)

  -- a slot in use, that stands there in the order
  module _ (st : Stores) (s : Sound i st) where
    at_place : slice_get (order i.kinds (rejected_slots i st) (other_slots i st)) at
        ≡ cond (get_or kinds at false) (slice_get (rejected_slots i st) older) (slice_get (other_slots i st) (at - older))
    unfolding order
    at_place =
        let told : Told kinds (rejected_slots i st) (other_slots i st) = record {
          rejections = n.counted.told ∙ sym (slots_length i.rejected st.rejections);
          all = kinds-length (count i) i.kinds ∙ sym (counts i st);
        } in
        rw (counts i st, ← older-is) (merge-at kinds (rejected_slots i st) (other_slots i st) at told in-kinds)

    used-below : (x : ℕ) → 0 < times x (rejected_slots i st) + times x (other_slots i st) → x < 64
    used-below x u = omega (arith, s.ordered.within, below_of x (length (rejected_slots i st) + length (other_slots i st)) (omega (arith, s.ordered.once x)))

    reads-slot : (x : ℕ) → slice_get (order i.kinds (rejected_slots i st) (other_slots i st)) at ≡ Some x → slice_get (list_of i st) at ≡ Some (in_slot st x)
    unfolding list_of
    reads-slot x e = slice_get-map (in_slot st) (order i.kinds (rejected_slots i st) (other_slots i st)) at ∙ rw e

  module _ (e : upto % 2 ≡ 1) where
    rejection : get_or kinds at false ≡ true
    rejection = kind-at-place ∙ eq-eqb (upto % 2) 1 e

    pub older-rejections : older < i.rejected.count
    older-rejections = omega (arith, before-true kinds at in-kinds rejection, older-is, n.counted.told)

    pub points-rejection : Points i at (Some (Rejected (place_at i.rejected older)))
    points-rejection = record {
      inside = place-below i.rejected older n.rejections (omega (arith, older-rejections, n.within));
      below = λ st s.
          let k : older < length (rejected_slots i st) = omega (arith, older-rejections, slots_length i.rejected st.rejections) in
          rw (slot_at i.rejected st.rejections n.rejections older (omega (arith, n.within)) older-rejections)
          (used-below st s (get_or (rejected_slots i st) older 0) (omega (arith, times-at (rejected_slots i st) older k)));
      reads = λ st s.
          let k : older < length (rejected_slots i st) = omega (arith, older-rejections, slots_length i.rejected st.rejections) in
          rw (slot_at i.rejected st.rejections n.rejections older (omega (arith, n.within)) older-rejections)
          (reads-slot st s (get_or (rejected_slots i st) older 0) (at_place st s ∙ rw rejection (slice_get-get_or (rejected_slots i st) older 0 k)));
    }

  module _ (e : upto % 2 ≡ 1 → ⊥) where
    other : get_or kinds at false ≡ false
    other = kind-at-place ∙ ne_eqb (upto % 2) 1 e

    pub older-others : at - older < i.others.count
    older-others = omega (arith, before-false kinds at in-kinds other, older-is, older-le, n.counted.told, kinds-length (count i) i.kinds)

    pub points-other : Points i at (Some (Other (place_at i.others (at - older))))
    points-other = record {
      inside = place-below i.others (at - older) n.others (omega (arith, older-others, n.within));
      below = λ st s.
          let k : at - older < length (other_slots i st) = omega (arith, older-others, slots_length i.others st.others) in
          rw (slot_at i.others st.others n.others (at - older) (omega (arith, n.within)) older-others)
          (used-below st s (get_or (other_slots i st) (at - older) 0) (omega (arith, times-at (other_slots i st) (at - older) k)));
      reads = λ st s.
          let k : at - older < length (other_slots i st) = omega (arith, older-others, slots_length i.others st.others) in
          rw (slot_at i.others st.others n.others (at - older) (omega (arith, n.within)) older-others)
          (reads-slot st s (get_or (other_slots i st) (at - older) 0) (at_place st s ∙ rw other (slice_get-get_or (other_slots i st) (at - older) 0 k)));
    }

-- a push into a ring -------------------------------------------------------------------------------------------------

module _ (ring : Ring) (r : Receipt) {kind : Bool} {p : Pushed} (k : Kept ring) (e : kind ≡ is_rejected r.decision)
    (m : Pushes ring.index kind (get_or ring.rejected ring.index.rejected.head 0) (get_or ring.others ring.index.others.head 0) p) where
  kept : Keeps ring.index (stores_of ring) kind p r
  unfolding rejected
  kept = m.keeps (stores_of ring) k (record { rejection = refl; other = refl }) r (sym e)

  pub recorded-below : p.slot < 64
  recorded-below = kept.below

  pub records-rejection : kind ≡ true
      → Records ring r (record { index = p.index; rejected = set ring.rejected p.place p.slot; others = ring.others; slots = set ring.slots p.slot r })
  records-rejection t = let q = rw t at kept in record { kept = q.sound; keeps = q.list }

  pub records-other : kind ≡ false
      → Records ring r (record { index = p.index; rejected = ring.rejected; others = set ring.others p.place p.slot; slots = set ring.slots p.slot r })
  records-other t = let q = rw t at kept in record { kept = q.sound; keeps = q.list }

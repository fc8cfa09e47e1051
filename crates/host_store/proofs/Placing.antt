-- A slot taken for a receipt, and a course followed, over the words. Assumes nothing.
use Prim.Native.Nat.{ℕ, ◌<◌}
use mathlib.Core.Bool.{Bool, true, false, cond}
use mathlib.Core.List.{List}
use mathlib.Core.Path.{◌≡◌, refl, ap, ◌∙◌}
use native.Mathlib.Omega.{arith}
use borrow.Author.Tests.{lt-ltb}
use lib.Dec.{ltb}
use lib.ListN.{get_or, set}
use Rattle.model.specs.declared.LeaseSlot.{LeaseSlot}
use Rattle.model.specs.declared.Receipt.{Receipt}
use Rattle.model.specs.Records.{no_lease, no_active}
use Rattle.receipts.specs.declared.Index.{Index}
use Rattle.receipts.specs.declared.Pushed.{Pushed}
use Rattle.rows.specs.Codes.{below}
use Rattle.rows.proofs.Codes.{below-back}
use Rattle.rules.specs.Receipts.{bump}
use Rattle.rules.specs.Rules.{lease_id, lease_owner}
use Rattle.state.specs.State.{InBounds, lease_in}
use Rattle.state.specs.Stores.{numbers_after, without, soonest_with}
use Rattle.state.specs.declared.AfterRecord.{AfterRecord}
use Rattle.state.specs.declared.Awaited.TheVariants as Awaited
use Rattle.state.specs.declared.Course.{Course}
use Rattle.state.specs.declared.Falling.{Falling}
use Rattle.state.specs.declared.Numbers.{Numbers}
use Rattle.state.specs.declared.Revoked.{Revoked}
use Rattle.state.specs.declared.Waiting.{Waiting}
use Rattle.state.specs.declared.Way.{Way}
use Rattle.state.specs.declared.Way.TheVariants.{Falls, Ends, GoesOn}
use Rattle.runtime.specs.declared.Placement.{Placement}
use Rattle.runtime.specs.declared.Runtime.{Runtime}
use Rattle.runtime.specs.Kept.{emptied, idled, clears, waits_by, followed_at, PlacesAs, oldest_rejected, oldest_other}
use Rattle.runtime.specs.Promises.{Kept}
use Rattle.layout.specs.Fields.{with_waiting, with_numbers, with_slot, with_why, with_falling, with_revoked, with_leases, with_active, with_slots, with_index, with_rejected, with_others, receipts_to}
use Rattle.layout.specs.Layout.{runtime_in, Becomes}
use Rattle.host_store.specs.Pushes.{AnyPush, PlacesAny}
use Rattle.host_store.specs.Stores.{noted_in, announced_in, Places, RecordsIn, Follows}
use Rattle.layout.proofs.Chains.{same_then, becomes-then}

-- a placement ------------------------------------------------------------------------------------------------------------

module _ {i : Index} {k : Bool} {a b : ℕ} (p : Pushed) (m : AnyPush i k a b p) where
  pub placed-rejected : k ≡ true → PlacesAny i k a b (record { index = p.index; slot = p.slot; rejected_at = p.place; others_at = 64 })
  placed-rejected e =
      record {
        slot = m.below;
        rejected = m.inside;
        others = omega arith;
        heads = m.heads;
        places = λ n. record { pushed = p; pushes = m.pushes n; index = refl; slot = refl; rejected = rw e; others = rw e };
      }

  pub placed-other : k ≡ false → PlacesAny i k a b (record { index = p.index; slot = p.slot; rejected_at = 64; others_at = p.place })
  placed-other e =
      record {
        slot = m.below;
        rejected = omega arith;
        others = m.inside;
        heads = m.heads;
        places = λ n. record { pushed = p; pushes = m.pushes n; index = refl; slot = refl; rejected = rw e; others = rw e };
      }

module _ (h : Runtime) {k : Bool} {i : Index} {a b : ℕ} (p : Placement) (kept : Kept h) (m : PlacesAny i k a b p) where
  places-in : i ≡ h.places.index → a ≡ get_or h.places.rejected i.rejected.head 0 → b ≡ get_or h.places.others i.others.head 0
      → PlacesAs h.places.index k (oldest_rejected h) (oldest_other h) p
  places-in e a-is b-is =
      let f : a ≡ oldest_rejected h = (rw e at a-is) in
      let g : b ≡ oldest_other h = (rw e at b-is) in
      (rw (e, f, g) at m).places kept.placed.receipts.numbered

pub places : {w w₁ w₂ w' : List ℕ} {k : Bool} {i : Index} {a b : ℕ} (p : Placement)
    → i ≡ (runtime_in w).places.index → a ≡ get_or (runtime_in w).places.rejected i.rejected.head 0
    → b ≡ get_or (runtime_in w).places.others i.others.head 0 → PlacesAny i k a b p
    → Becomes w w₁ (with_index p.index (runtime_in w))
    → Becomes w₁ w₂ (with_rejected (set (runtime_in w₁).places.rejected p.rejected_at p.slot) (runtime_in w₁))
    → Becomes w₂ w' (with_others (set (runtime_in w₂).places.others p.others_at p.slot) (runtime_in w₂)) → Places k w w' p.slot
places {w = w} p i-is a-is b-is m s₁ s₂ s₃ =
    let all =
    becomes-then (λ (h : Runtime). with_others (set h.places.others p.others_at p.slot) h)
    (becomes-then (λ (h : Runtime). with_rejected (set h.places.rejected p.rejected_at p.slot) h) s₁ s₂) s₃
    in
    record {
      same = all.same;
      inside = m.slot;
      placement = p;
      taken = refl;
      noted = all.stored;
      places = λ kept. places-in (runtime_in w) p kept m i-is a-is b-is;
    }

pub announces : {w w₁ w₂ w' : List ℕ} {after : AfterRecord} {numbers : Numbers} {next : ℕ} {waits : Waiting} (slot : ℕ) → slot < 65
    → numbers ≡ (runtime_in w).numbers → next ≡ bump numbers.next_receipt → waits ≡ record { awaited = Awaited.Record; after_record = after }
    → Becomes w w₁ (with_numbers (receipts_to next (runtime_in w).numbers) (runtime_in w)) → Becomes w₁ w₂ (with_waiting waits (runtime_in w₁))
    → Becomes w₂ w' (with_slot (below 65 slot) (runtime_in w₂)) → Becomes w w' (announced_in after slot (runtime_in w))
announces {waits = waits} slot h n x v s₁ s₂ s₃ =
    rw (below-back 65 slot h, v) at (becomes-then (with_slot (below 65 slot)) (becomes-then (with_waiting waits) (rw (x, n) at s₁) s₂) s₃)

-- a slot taken, announced and filled is a receipt recorded
pub recorded : {w w₁ w₂ w' : List ℕ} {k : Bool} {after : AfterRecord} {r : Receipt} (slot : ℕ) → Places k w w₁ slot
    → Becomes w₁ w₂ (announced_in after slot (runtime_in w₁)) → Becomes w₂ w' (with_slots (set (runtime_in w₂).slots slot r) (runtime_in w₂)) → RecordsIn k after r w w'
recorded {w = w} {w₂ = w₂} {after = after} slot p a s =
    record {
      same = same_then p.same (same_then a.same s.same);
      between = runtime_in w₂;
      slot = slot;
      places = λ kept.
          record {
            placement = p.placement;
            places = p.places kept;
            stored =
                a.stored
                ∙ ap (announced_in after slot) p.noted
                ∙ ap (λ (n : ℕ). announced_in after n (noted_in p.placement (runtime_in w))) p.taken;
            slot = p.taken;
            inside = p.inside;
          };
      filled = s.stored;
    }

-- a course ---------------------------------------------------------------------------------------------------------------

-- the axis that a course clears is inside
axis-is : (way : Way) (n at axis : ℕ) → at ≡ clears way n → axis ≡ cond (ltb at 8) at 8 → n < 8 → axis ≡ clears way n
axis-is Falls n at axis e f h = (rw e at f) ∙ (rw (lt-ltb n 8 h))
axis-is Ends n at axis e f h = (rw e at f)
axis-is GoesOn n at axis e f h = (rw e at f)

-- what is stored for a course
following-of : (c : Course) (h : Runtime) (axis to : ℕ) (slot : LeaseSlot) (numbers after : Numbers) (by : Revoked) (f : Falling) (held : ℕ) (waits : Waiting)
    → axis ≡ to → slot ≡ get_or h.leases axis no_lease → numbers ≡ h.numbers
    → by ≡ record { lease_id = lease_id (lease_in slot); owner = lease_owner (lease_in slot); ok = h.revoked.ok }
    → held ≡ without (lease_in slot) numbers.held → after ≡ numbers_after c held (soonest_with held numbers.soonest) numbers
    → waits ≡ waits_by c.way → f ≡ c.falling
    → with_active (set h.active axis (idled (get_or h.active axis no_active))) (with_leases (set h.leases axis (emptied (get_or h.leases axis no_lease)))
    (with_why (record { reason = c.why.reason }) (with_waiting waits (with_numbers after (with_falling f (with_revoked by h)))))) ≡ followed_at to (waits_by c.way) c h
following-of c h axis to slot numbers after by f held waits a s n b l t v g = rw (t, l, b, s, n, v, g, a)

pub follows : {w w₁ w₂ w₃ w₄ w₅ w₆ w' : List ℕ} {at axis held : ℕ} {slot : LeaseSlot} {revoked by : Revoked} {f : Falling} {numbers after : Numbers} {waits : Waiting} (c : Course)
    → at ≡ clears c.way c.falling.axis → axis ≡ cond (ltb at 8) at 8 → slot ≡ get_or (runtime_in w).leases axis no_lease
    → revoked ≡ (runtime_in w).revoked → numbers ≡ (runtime_in w).numbers
    → by ≡ record { lease_id = lease_id (lease_in slot); owner = lease_owner (lease_in slot); ok = revoked.ok }
    → held ≡ without (lease_in slot) numbers.held → after ≡ numbers_after c held (soonest_with held numbers.soonest) numbers
    → waits ≡ waits_by c.way → (InBounds c.falling → f ≡ c.falling)
    → Becomes w w₁ (with_revoked by (runtime_in w)) → Becomes w₁ w₂ (with_falling f (runtime_in w₁)) → Becomes w₂ w₃ (with_numbers after (runtime_in w₂))
    → Becomes w₃ w₄ (with_waiting waits (runtime_in w₃)) → Becomes w₄ w₅ (with_why (record { reason = c.why.reason }) (runtime_in w₄))
    → Becomes w₅ w₆ (with_leases (set (runtime_in w₅).leases axis (emptied (get_or (runtime_in w₅).leases axis no_lease))) (runtime_in w₅))
    → Becomes w₆ w' (with_active (set (runtime_in w₆).active axis (idled (get_or (runtime_in w₆).active axis no_active))) (runtime_in w₆))
    → Follows c w w' c.answer
follows {w = w} {axis = axis} {f = f} {after = after} {waits = waits} c at-is axis-of slot_is revoked-is numbers-is by-is held-is after_is waits-is f-is s₁ s₂ s₃ s₄ s₅ s₆ s₇ =
    let all =
    becomes-then (λ (h : Runtime). with_active (set h.active axis (idled (get_or h.active axis no_active))) h)
    (becomes-then (λ (h : Runtime). with_leases (set h.leases axis (emptied (get_or h.leases axis no_lease))) h)
    (becomes-then (with_why (record { reason = c.why.reason }))
    (becomes-then (with_waiting waits) (becomes-then (with_numbers after) (becomes-then (with_falling f) s₁ s₂) s₃) s₄) s₅) s₆) s₇
    in
    record {
      same = all.same;
      leaves = λ bounds.
          record {
            stored =
                all.stored
                ∙ following-of c (runtime_in w) axis (clears c.way c.falling.axis) _ _ _ _ _ _ _ (axis-is c.way c.falling.axis _ axis at-is axis-of bounds.axis)
                slot_is numbers-is (rw revoked-is at by-is) held-is after_is waits-is (f-is bounds);
            answered = refl;
          };
    }

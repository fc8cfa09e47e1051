-- What a placement asks of a walk: places within their circles, a slot that fits a byte. Assumes nothing.
use Prim.Native.Nat.{ℕ, ◌<◌}
use mathlib.Core.Bool.{Bool, true, false, cond}
use mathlib.Core.Path.{◌≡◌, refl, sym, subst}
use native.Mathlib.Omega.{arith}
use Rattle.model.specs.declared.Decision.TheVariants.{Executed, Rejected}
use Rattle.model.specs.declared.Reason.TheVariants.{Ok}
use Rattle.model.specs.declared.Receipt.{Receipt}
use Rattle.receipts.specs.declared.Index.{Index}
use Rattle.rules.specs.Receipts.{is_rejected, rejected, no_parameters}
use Rattle.state.specs.declared.AfterRecord.TheVariants as AfterRecord
use Rattle.runtime.specs.declared.Placement.{Placement}
use Rattle.runtime.specs.declared.Runtime.{Runtime}
use Rattle.runtime.specs.Kept.{oldest_rejected, oldest_other, PlacesAs}
use Rattle.runtime.specs.Promises.{Kept}
use Rattle.runtime.proofs.Records.{slot-below}

pub head-inside : (n : ℕ) → n < 64 → n < 65
head-inside n h = omega (arith, h)

circle : (kind : Bool) (at place : ℕ) → place < 64 → at ≡ cond kind place 64 → at < 65
circle true at place h e = omega (arith, h, e)
circle false at place h e = omega (arith, e)

other-circle : (kind : Bool) (at place : ℕ) → place < 64 → at ≡ cond kind 64 place → at < 65
other-circle true at place h e = omega (arith, e)
other-circle false at place h e = omega (arith, h, e)

pub rejected-inside : {i : Index} {kind : Bool} {a b : ℕ} (p : Placement) → PlacesAs i kind a b p → p.rejected_at < 65
rejected-inside {kind = kind} p m = circle kind p.rejected_at m.pushed.place m.pushes.inside m.rejected

pub others-inside : {i : Index} {kind : Bool} {a b : ℕ} (p : Placement) → PlacesAs i kind a b p → p.others_at < 65
others-inside {kind = kind} p m = other-circle kind p.others_at m.pushed.place m.pushes.inside m.others

-- a receipt of either kind
sample : Bool → Receipt
sample kind =
    record {
      boot_id = 0;
      principal = 0;
      safety_flags = 0;
      receipt_id = 0;
      action_id = 0;
      sequence = 0;
      capability = 0;
      resource = 0;
      lease_id = 0;
      decision = cond kind Rejected Executed;
      reason = Ok;
      epoch = 0;
      received_at = 0;
      admitted_at = 0;
      executed_at = 0;
      requested = no_parameters;
      observed = no_parameters;
      pre_state = 0;
      post_state = 0;
      original_receipt = 0;
      dispatched = false;
      observed_valid = false;
    }

sample-kind : (kind : Bool) → rejected (sample kind) ≡ kind
unfolding sample rejected is_rejected
sample-kind true = refl
sample-kind false = refl

slot-low : (h : Runtime) (kind : Bool) (p : Placement) → Kept h → PlacesAs h.places.index kind (oldest_rejected h) (oldest_other h) p → p.slot < 64
slot-low h kind p k m =
    slot-below h k.sized k.placed (sample kind) p
    (subst (λ (b : Bool). PlacesAs h.places.index b (oldest_rejected h) (oldest_other h) p) (sym (sample-kind kind)) m) AfterRecord.Lease

pub slot-inside : (h : Runtime) (kind : Bool) (p : Placement) → Kept h → PlacesAs h.places.index kind (oldest_rejected h) (oldest_other h) p → p.slot < 65
slot-inside h kind p k m = omega (arith, slot-low h kind p k m)

pub slot-fits : (h : Runtime) (kind : Bool) (p : Placement) → Kept h → PlacesAs h.places.index kind (oldest_rejected h) (oldest_other h) p → p.slot < 256
slot-fits h kind p k m = omega (arith, slot-low h kind p k m)

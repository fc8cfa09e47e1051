-- Receipts: what they say, their numbers, and which are kept (01, "Receipts"; runtime.rs, `record`, `event`, `submit`).
use Rattle.std.specs.Prelude.{ℕ, ◌+◌, Bool, true, false, cond, List, [], ◌∷◌, ◌++◌, ltb, ℤ, pos, length, drop}
use Rattle.std.specs.Prelude.{Option, Some, None}
use Rattle.model.specs.declared.Capability.{Capability}
use Rattle.model.specs.declared.Decision.{Decision}
use Rattle.model.specs.declared.Decision.TheVariants.{Executed, Rejected, Fallback, Control, Failed}
use Rattle.model.specs.declared.Reason.{Reason}
use Rattle.model.specs.declared.Receipt.{Receipt}
use Rattle.model.specs.declared.Submission.{Submission}
use Rattle.model.specs.Lists.{any}
use Rattle.rules.specs.Book.{Book}
use Rattle.rules.specs.With.{with_receipts, with_next_receipt}

-- numbers ------------------------------------------------------------------------------------------------------------

-- the largest number of 64 bits
abbrev pub top : ℕ
top = 0xffff_ffff_ffff_ffff

-- one more, held at a limit
unfoldable pub bump_to : ℕ → ℕ → ℕ
bump_to limit n = cond (ltb n limit) (n + 1) n

-- one more, held at the top of 64 bits
abbrev pub bump : ℕ → ℕ
bump n = bump_to top n

-- which receipts are kept --------------------------------------------------------------------------------------------

unfoldable pub is_rejected : Decision → Bool
is_rejected Executed = false
is_rejected Rejected = true
is_rejected Fallback = false
is_rejected Control = false
is_rejected Failed = false

unfoldable pub rejected : Receipt → Bool
rejected r = is_rejected r.decision

unfoldable pub drop_first_rejected : List Receipt → List Receipt
drop_first_rejected [] = []
drop_first_rejected (r ∷ rs) = cond (rejected r) rs (r ∷ drop_first_rejected rs)

-- 01: "A full ring drops its oldest Rejected receipt, else its oldest."
unfoldable pub evict : List Receipt → List Receipt
evict rs = cond (any rejected rs) (drop_first_rejected rs) (drop 1 rs)

-- the receipts kept with one more, at most `capacity`, oldest first
unfoldable pub keep : ℕ → List Receipt → Receipt → List Receipt
keep capacity rs r = cond (ltb (length rs) capacity) rs (evict rs) ++ (r ∷ [])

abbrev pub receipt_capacity : ℕ
receipt_capacity = 64

unfoldable pub kept : Receipt → Book → Book
kept r b = with_next_receipt (bump b.next_receipt) (with_receipts (keep receipt_capacity b.receipts r) b)

-- what receipts say --------------------------------------------------------------------------------------------------

unfoldable pub numbered : ℕ → Receipt → Receipt
numbered n r =
    record {
      boot_id = r.boot_id;
      principal = r.principal;
      safety_flags = r.safety_flags;
      receipt_id = n;
      action_id = r.action_id;
      sequence = r.sequence;
      capability = r.capability;
      resource = r.resource;
      lease_id = r.lease_id;
      decision = r.decision;
      reason = r.reason;
      epoch = r.epoch;
      received_at = r.received_at;
      admitted_at = r.admitted_at;
      executed_at = r.executed_at;
      requested = r.requested;
      observed = r.observed;
      pre_state = r.pre_state;
      post_state = r.post_state;
      original_receipt = r.original_receipt;
      dispatched = r.dispatched;
      observed_valid = r.observed_valid;
    }

abbrev pub no_parameters : List ℤ
no_parameters = pos 0 ∷ pos 0 ∷ []

unfoldable pub is_fallback : Decision → Bool
is_fallback Executed = false
is_fallback Rejected = false
is_fallback Fallback = true
is_fallback Control = false
is_fallback Failed = false

-- the receipt of a fallback, a grant or a renewal: axis, lease, principal, decision, reason, time
unfoldable pub event : ℕ → ℕ → ℕ → Decision → Reason → ℕ → Book → Receipt
event axis lease principal decision reason now b =
    record {
      boot_id = b.boot_id;
      principal = principal;
      safety_flags = b.flags;
      receipt_id = 0;
      action_id = 0;
      sequence = 0;
      capability = 0;
      resource = axis;
      lease_id = lease;
      decision = decision;
      reason = reason;
      epoch = b.epoch;
      received_at = now;
      admitted_at = now;
      executed_at = now;
      requested = no_parameters;
      observed = no_parameters;
      pre_state = b.flags;
      post_state = b.flags;
      original_receipt = 0;
      dispatched = is_fallback decision;
      observed_valid = false;
    }

-- how far the driver came with an order
pub record Progress : Type 0 where
  pub dispatched : Bool
  pub pre_state : ℕ
  pub executed_at : ℕ
  pub observed_valid : Bool
  pub observed : List ℤ
  pub post_state : ℕ

abbrev pub not_sent : Progress
not_sent =
    record {
      dispatched = false;
      pre_state = 0;
      executed_at = 0;
      observed_valid = false;
      observed = no_parameters;
      post_state = 0;
    }

unfoldable pub axis_or255 : Option Capability → ℕ
axis_or255 None = 255
axis_or255 (Some c) = c.resource

-- the receipt of an order: the capability that it names, decision, reason, a duplicate's original, and how far the driver came
unfoldable pub order_receipt : Submission → Option Capability → Decision → Reason → ℕ → Progress → Book → Receipt
order_receipt s c decision reason original p b =
    record {
      boot_id = b.boot_id;
      principal = s.principal;
      safety_flags = b.flags;
      receipt_id = 0;
      action_id = s.action.action_id;
      sequence = s.action.sequence;
      capability = s.action.capability;
      resource = axis_or255 c;
      lease_id = s.action.lease_id;
      decision = decision;
      reason = reason;
      epoch = b.epoch;
      received_at = s.received_at;
      admitted_at = s.now;
      executed_at = p.executed_at;
      requested = s.action.parameters;
      observed = p.observed;
      pre_state = p.pre_state;
      post_state = p.post_state;
      original_receipt = original;
      dispatched = p.dispatched;
      observed_valid = p.observed_valid;
    }

-- What a fallback, an order that failed and one that was executed leave in a runtime. Assumes nothing.
use Prim.Native.Nat.{ℕ, ◌<◌}
use mathlib.Core.Bool.{Bool, false}
use mathlib.Core.Path.{refl}
use lib.ListN.{set}
use Rattle.model.specs.declared.Reason.{Reason}
use Rattle.model.specs.declared.Receipt.{Receipt}
use Rattle.rules.specs.Protocol.{proceed}
use Rattle.rules.specs.Receipts.{Progress, event, order_receipt, numbered, rejected, is_rejected}
use Rattle.rules.specs.Rules.{record_receipt, fail, complete}
use Rattle.state.specs.State.{active_in, after_fell_back, Moves}
use Rattle.state.specs.Stores.{recorded}
use Rattle.state.specs.declared.AfterRecord.TheVariants as AfterRecord
use Rattle.state.specs.declared.Answer.TheVariants as Answer
use Rattle.decide_reply.specs.Replies.{told, completing, completed}
use Rattle.decide_reply.specs.declared.Completing.{Completing}
use Rattle.runtime.specs.declared.Runtime.{Runtime}
use Rattle.runtime.specs.Kept.{filled_in}
use Rattle.runtime.specs.Promises.{Kept, Good, MovesIn, PlacesIn}
use Rattle.runtime.specs.Runtimes.{asked_in, order_in, state_in, book_on}
use Rattle.runtime.proofs.Onto.{kind_in, kind_at, recorded-in, altered, kept-numbers, kept-order}
use Rattle.runtime.proofs.Slots.{shown-set}

-- a fallback ---------------------------------------------------------------------------------------------------------------

abbrev telling : Bool → Runtime → Runtime
telling ok h =
    altered h.numbers h.axis (record { lease_id = h.revoked.lease_id; owner = h.revoked.owner; ok = ok }) h.leases h.active h

pub telling-kept : (h : Runtime) (ok : Bool) → Kept h → Kept (telling ok h)
telling-kept h ok k = kept-numbers h k h.numbers h.axis (record { lease_id = h.revoked.lease_id; owner = h.revoked.owner; ok = ok })

pub tells : (h : Runtime) (ok : Bool) (x : Receipt) (z : Runtime) (slot : ℕ) → Good h → PlacesIn false AfterRecord.Fallback (telling ok h) z slot
    → Moves (told x ok (state_in h)) Answer.Item (proceed (after_fell_back h.falling h.revoked (asked_in h) ok (book_on h)))
    → MovesIn (filled_in slot x z) Answer.Item (proceed (after_fell_back h.falling h.revoked (asked_in h) ok (book_on h)))
unfolding after_fell_back proceed record_receipt event numbered rejected is_rejected kind_in kind_at
tells h ok x z slot k p v = recorded-in (telling ok h) (telling-kept h ok k.kept) k.started x false AfterRecord.Fallback z slot p _ refl v

-- an order that failed -------------------------------------------------------------------------------------------------------

pub fails : (h : Runtime) (reason : Reason) (g : Progress) (x : Receipt) (z : Runtime) (slot : ℕ) → Good h → PlacesIn false AfterRecord.Failed h z slot
    → Moves (recorded x AfterRecord.Failed (state_in h)) Answer.Item (proceed (fail (order_in h).capability reason g h.submission (book_on h)))
    → MovesIn (filled_in slot x z) Answer.Item (proceed (fail (order_in h).capability reason g h.submission (book_on h)))
unfolding fail proceed record_receipt order_receipt numbered rejected is_rejected kind_in kind_at
fails h reason g x z slot k p v = recorded-in h k.kept k.started x false AfterRecord.Failed z slot p _ refl v

-- an order that was executed ---------------------------------------------------------------------------------------------------

abbrev finishing : Completing → ℕ → Runtime → Runtime
finishing c i h = altered (completing c.soonest h.numbers) h.axis h.revoked h.leases (set h.active i c.active) h

pub finishing-kept : (h : Runtime) (c : Completing) (i : ℕ) → Kept h → i < 8 → Kept (finishing c i h)
finishing-kept h c i k b = kept-order h k (completing c.soonest h.numbers) h.axis h.revoked i c.active b

pub finishes : (h : Runtime) (end : ℕ) (g : Progress) (c : Completing) (z : Runtime) (slot : ℕ) → Good h
    → PlacesIn false AfterRecord.Executed (finishing c (order_in h).capability.resource h) z slot
    → Moves (completed c (order_in h).capability.resource (state_in h)) Answer.Item (proceed (complete (order_in h).capability end g h.submission (book_on h)))
    → MovesIn (filled_in slot c.receipt z) Answer.Item (proceed (complete (order_in h).capability end g h.submission (book_on h)))
unfolding completed complete proceed record_receipt order_receipt numbered rejected is_rejected kind_in kind_at
finishes h end g c z slot k p v =
    let i = (order_in h).capability.resource in
    recorded-in (finishing c i h) (finishing-kept h c i k.kept k.sound.order.axis) k.started c.receipt false AfterRecord.Executed z slot p _ refl
    (rw (shown-set active_in 8 h.active i c.active k.sound.order.axis) v)

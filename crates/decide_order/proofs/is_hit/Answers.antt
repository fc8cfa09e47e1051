use Prim.Native.Nat.{ℕ}
use mathlib.Core.Bool.{false, and-true, and-false}
use mathlib.Core.Path.{◌≡◌, refl}
use borrow.Author.Tests.{eq-eqb, ne_eqb}
use lib.Dec.{eqb}
use Rattle.model.specs.declared.Presence.{Presence}
use Rattle.model.specs.declared.Presence.TheVariants.{Absent, Present}
use Rattle.model.specs.declared.Replay.{Replay}
use Rattle.rules.specs.Admission.{holds_of, is_entry}
use Rattle.decide_order.specs.Orders.{entry_if}
use Rattle.decide_order.proofs.is_hit.Goals as goal

other-id : (p : Presence) (e : Replay) (owner action : ℕ) → eqb e.action_id action ≡ false → false ≡ holds_of (entry_if p e) (is_entry owner action)
unfolding holds_of is_entry
other-id Absent e owner action h = refl
other-id Present e owner action h = rw (h, and-false)

pub returns-then-entry-action_id : goal.returns-then-entry-action_id
returns-then-entry-action_id c =
    let a = c.args in
    other-id a.slot.presence a.slot.replay a.owner a.action_id (ne_eqb _ _ c.if-entry-action_id.true)

pub returns-in-Absent : goal.returns-in-Absent
unfolding holds_of
returns-in-Absent c = rw c.in-Absent.is

pub returns-in-Present : goal.returns-in-Present
unfolding holds_of is_entry
returns-in-Present c = rw (c.in-Present.is, eq-eqb _ _ c.if-entry-action_id.false, and-true)

use mathlib.Core.Path.{◌≡◌, refl, sym, subst}
use Rattle.model.specs.declared.LeaseSlot.{LeaseSlot}
use Rattle.model.specs.declared.Presence.{Presence}
use Rattle.state.specs.State.{lease_if}
use Rattle.decide_read.specs.Shown.{slot_with}
use Rattle.decide_read.proofs.lease_of.Goals as goal

pub returns-in-Absent : goal.returns-in-Absent
unfolding slot_with
returns-in-Absent c = simp (c.in-Absent.is, c.blank.ensures)

pub returns-in-Present : goal.returns-in-Present
unfolding slot_with
returns-in-Present c =
    let l = c.args.slot.lease in
    subst (λ (p : Presence). ◌≡◌ {A = LeaseSlot} (record { presence = p; lease = l }) (slot_with (lease_if p l))) (sym c.in-Present.is) refl

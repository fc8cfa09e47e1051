use Rattle.runtime.proofs.Told.{record-read}
use mathlib.Core.Path.{refl, ap}
use Rattle.runtime.proofs.Cells.{up_to}
use Rattle.runtime.proofs.Replies.{finishes, finishing-kept}
use Rattle.runtime.specs.Runtimes.{asked_in, hand_in, tables_in}
use Rattle.state.specs.State.{carries}
use Rattle.runtime.proofs.complete.Goals as goal

pub bounds-rt-carrying : goal.bounds-rt-carrying
bounds-rt-carrying c = c.requires.0.kept.placed.capability

pub bounds-rt-capability : goal.bounds-rt-capability
bounds-rt-capability c =
    let k = c.requires.0.kept in
    rw (record-read c.args.rt.now k c.args.rt.now.carrying.at k.placed.capability) (up_to 8 9 _ tt c.requires.0.sound.order.axis)

pub bounds-rt-slot : goal.bounds-rt-slot
bounds-rt-slot c = c.place-slot.ensures.inside

pub place-slot-requires : goal.place-slot-requires
place-slot-requires c =
    let k = c.requires.0.kept in
    rw (record-read c.args.rt.now k c.args.rt.now.carrying.at k.placed.capability) (finishing-kept c.args.rt.now c.completed-change.result _ k c.requires.0.sound.order.axis)

pub returns : goal.returns
returns c =
    let k = c.requires.0.kept in
    let e = rw (record-read c.args.rt.now k c.args.rt.now.carrying.at k.placed.capability) at c.completed-change.ensures in
    let p = rw (record-read c.args.rt.now k c.args.rt.now.carrying.at k.placed.capability) at c.place-slot.ensures in
    finishes c.args.rt.now _ _ c.completed-change.result c.place-slot.new.rt c.place-slot.result c.requires.0 p (e (tables_in c.args.rt.now) (asked_in c.args.rt.now) (hand_in c.args.rt.now) c.requires.0.sound refl refl (ap carries c.requires.1))

use Rattle.runtime.proofs.Told.{record-read}
use mathlib.Core.Path.{refl}
use Rattle.runtime.proofs.Replies.{fails}
use Rattle.runtime.specs.Runtimes.{asked_in, hand_in, tables_in}
use Rattle.state.specs.State.{progress_of}
use Rattle.runtime.proofs.fail.Goals as goal

pub bounds-rt-at : goal.bounds-rt-at
bounds-rt-at c = c.requires.kept.placed.capability

pub bounds-rt-slot : goal.bounds-rt-slot
bounds-rt-slot c = c.place-slot.ensures.inside

pub place-slot-requires : goal.place-slot-requires
place-slot-requires c = c.requires.kept

pub returns : goal.returns
returns c =
    let k = c.requires.kept in
    let e = rw (record-read c.args.rt.now k c.args.rt.now.carrying.at k.placed.capability) at c.failed-receipt.ensures in
    fails c.args.rt.now c.args.reason (progress_of c.args.progress) c.failed-receipt.result c.place-slot.new.rt c.place-slot.result c.requires c.place-slot.ensures (e (tables_in c.args.rt.now) (asked_in c.args.rt.now) (hand_in c.args.rt.now) c.requires.sound refl)

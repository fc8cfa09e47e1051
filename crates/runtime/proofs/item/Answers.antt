use Rattle.runtime.proofs.Told.{record-read, slot-read}
use Rattle.runtime.proofs.Showing.{item-shown}
use Rattle.runtime.proofs.item.Goals as goal

pub bounds-rt-at : goal.bounds-rt-at
bounds-rt-at c = c.requires.kept.placed.capability

pub bounds-rt-slot : goal.bounds-rt-slot
bounds-rt-slot c = c.requires.kept.placed.slot

pub returns : goal.returns
returns c =
    let k = c.requires.kept in
    rw (c.item_of.ensures, record-read c.args.rt.now k c.args.rt.now.carrying.at k.placed.capability, slot-read c.args.rt.now k c.args.rt.now.slot k.placed.slot) (item-shown c.args.rt.now c.requires)

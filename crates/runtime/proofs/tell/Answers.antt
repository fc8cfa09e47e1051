use mathlib.Core.Path.{refl}
use Rattle.runtime.proofs.Replies.{telling-kept, tells}
use Rattle.runtime.specs.Runtimes.{asked_in, hand_in, tables_in}
use Rattle.runtime.proofs.tell.Goals as goal

pub bounds-rt-slot : goal.bounds-rt-slot
bounds-rt-slot c = c.place-slot.ensures.inside

pub place-slot-requires : goal.place-slot-requires
place-slot-requires c = telling-kept c.args.rt.now c.args.ok c.requires.kept

pub returns : goal.returns
returns c = tells c.args.rt.now c.args.ok c.told-receipt.result c.place-slot.new.rt c.place-slot.result c.requires c.place-slot.ensures (c.told-receipt.ensures (tables_in c.args.rt.now) (asked_in c.args.rt.now) (hand_in c.args.rt.now) c.requires.sound refl refl)

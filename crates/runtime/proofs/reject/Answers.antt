use mathlib.Core.Path.{refl}
use Rattle.runtime.proofs.Orders.{rejecting-kept, rejects}
use Rattle.runtime.specs.Runtimes.{asked_in, hand_in, tables_in}
use Rattle.runtime.proofs.reject.Goals as goal

pub bounds-rt-slot : goal.bounds-rt-slot
bounds-rt-slot c = c.place-slot.ensures.inside

pub place-slot-requires : goal.place-slot-requires
place-slot-requires c = rejecting-kept c.args.rt.now c.rejected-change.result (c.requires.0.kept)

pub returns : goal.returns
returns c = rejects c.args.rt.now c.args.reason c.rejected-change.result (c.place-slot.new.rt) c.place-slot.result (c.requires.0) c.place-slot.ensures (c.rejected-change.ensures (tables_in c.args.rt.now) (asked_in c.args.rt.now) (hand_in c.args.rt.now) (c.requires.0.sound) refl (c.requires.1.0) (c.requires.1.1))

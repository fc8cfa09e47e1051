use Rattle.runtime.proofs.Cells.{up_to}
use Rattle.runtime.proofs.Leases.{granting-kept, grants, request-axis, request-fits, request-free}
use Rattle.runtime.specs.Runtimes.{asked_in, hand_in, tables_in}
use Rattle.runtime.proofs.grant.Goals as goal

pub bounds-rt-request : goal.bounds-rt-request
bounds-rt-request c = up_to 8 9 _ tt (request-axis c.args.rt.now c.args.time (c.requires.1) (c.requires.0.sound))

pub bounds-rt-slot : goal.bounds-rt-slot
bounds-rt-slot c = c.place-slot.ensures.inside

pub granted-change-requires : goal.granted-change-requires
granted-change-requires c = ((request-axis c.args.rt.now c.args.time (c.requires.1) (c.requires.0.sound)), request-fits c.args.rt.now c.args.time (c.requires.1))

pub place-slot-requires : goal.place-slot-requires
place-slot-requires c = granting-kept c.args.rt.now c.granted-change.result _ (c.requires.0.kept) (request-axis c.args.rt.now c.args.time (c.requires.1) (c.requires.0.sound))

pub returns : goal.returns
returns c = grants c.args.rt.now c.args.time c.granted-change.result (c.place-slot.new.rt) c.place-slot.result (c.requires.0) (request-axis c.args.rt.now c.args.time (c.requires.1) (c.requires.0.sound)) c.place-slot.ensures (c.granted-change.ensures (tables_in c.args.rt.now) (asked_in c.args.rt.now) (hand_in c.args.rt.now) (c.requires.0.sound) (request-free c.args.rt.now c.args.time (c.requires.1)))

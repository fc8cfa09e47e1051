use Rattle.runtime.proofs.Told.{slot-read}
use Rattle.runtime.proofs.Showing.{receipt-answered}
use Rattle.runtime.proofs.answered_receipt.Goals as goal

pub bounds-rt-slot : goal.bounds-rt-slot
bounds-rt-slot c = c.requires.kept.placed.slot

pub returns : goal.returns
returns c =
    let k = c.requires.kept in
    rw (rw (slot-read c.args.rt.now k c.args.rt.now.slot k.placed.slot) at c.submitted_of.ensures) (receipt-answered c.args.rt.now)

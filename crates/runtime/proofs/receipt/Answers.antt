use Rattle.decide_read.specs.Shown.{slot_by}
use lib.ListN.{get_or}
use Rattle.runtime.proofs.Told.{slot-read}
use Rattle.runtime.proofs.Showing.{noted-low, noted-others, noted-rejected, receipt-reads}
use Rattle.runtime.proofs.receipt.Goals as goal

pub bounds-rt-noted : goal.bounds-rt-noted
bounds-rt-noted c = noted-rejected c.args.rt.now c.requires.kept c.args.index c.noted_at-noted.result c.noted_at-noted.ensures

pub bounds-rt-noted-2 : goal.bounds-rt-noted-2
bounds-rt-noted-2 c = noted-others c.args.rt.now c.requires.kept c.args.index c.noted_at-noted.result c.noted_at-noted.ensures

pub bounds-rt-slot : goal.bounds-rt-slot
bounds-rt-slot c = rw c.slot_of-slot.ensures (noted-low c.args.rt.now c.requires.kept c.args.index c.noted_at-noted.result c.noted_at-noted.ensures)

pub noted_at-noted-requires : goal.noted_at-noted-requires
noted_at-noted-requires c = c.requires.kept.placed.receipts.numbered

pub returns : goal.returns
returns c =
    let k = c.requires.kept in
    let slot = slot_by c.noted_at-noted.result (get_or c.args.rt.now.places.rejected c.noted_at-noted.result.rejected 0) (get_or c.args.rt.now.places.others c.noted_at-noted.result.others 0) in
    rw (c.receipt_shown.ensures, c.slot_of-slot.ensures, slot-read c.args.rt.now k slot (noted-low c.args.rt.now k c.args.index c.noted_at-noted.result c.noted_at-noted.ensures)) (receipt-reads c.args.rt.now k c.args.index c.noted_at-noted.result c.noted_at-noted.ensures)

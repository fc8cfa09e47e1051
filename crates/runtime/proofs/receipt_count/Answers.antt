use Rattle.runtime.proofs.Showing.{count-reads}
use Rattle.runtime.proofs.receipt_count.Goals as goal

pub retained-count-requires : goal.retained-count-requires
retained-count-requires c = c.requires.kept.placed.receipts.numbered

pub returns : goal.returns
returns c = rw (c.number_shown.ensures, c.retained-count.ensures) (count-reads c.args.rt.now c.requires.kept)

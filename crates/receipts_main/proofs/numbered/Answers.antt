use Rattle.receipts_main.specs.CaseG.{receipt_of}
use Rattle.receipts_main.proofs.numbered.Goals as goal

pub returns : goal.returns
unfolding receipt_of
returns c = rw (c.decision.ensures, c.blank.ensures)

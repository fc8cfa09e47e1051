use Rattle.receipts_speed.specs.Pushes.{numbered_receipt}
use Rattle.receipts_speed.proofs.numbered.Goals as goal

pub returns : goal.returns
unfolding numbered_receipt
returns c = rw (c.decision_of.ensures, c.blank.ensures)

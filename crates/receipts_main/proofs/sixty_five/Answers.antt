use Rattle.receipts_main.proofs.Issued.{holds_more}
use Rattle.receipts_main.proofs.sixty_five.Goals as goal

pub returns : goal.returns
returns c = holds_more c.filled-ring.ensures c.numbered.ensures c.«record».ensures

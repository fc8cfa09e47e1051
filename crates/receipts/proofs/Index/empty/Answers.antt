use Rattle.receipts.proofs.Promises.{opens}
use Rattle.receipts.proofs.Index.empty.Goals as goal

pub returns : goal.returns
returns c = opens c.empty.result c.empty-2.result c.empty.ensures c.empty-2.ensures

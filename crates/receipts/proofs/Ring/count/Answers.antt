use mathlib.Core.Path.{sym}
use Rattle.receipts.proofs.Promises.{list_length}
use Rattle.receipts.specs.Rings.{stores_of}
use Rattle.receipts.proofs.Ring.count.Goals as goal

pub returns : goal.returns
returns c = sym (list_length c.args.self.now.index (stores_of c.args.self.now) c.requires)

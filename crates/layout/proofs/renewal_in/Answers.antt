use Rattle.layout.proofs.Fields.{renewal-read}
use borrow.Author.Rules.{rules}
use Rattle.layout.proofs.renewal_in.Goals as goal

pub returns : goal.returns
returns c = renewal-read _ _ c.read.ensures c.renewal_of.ensures

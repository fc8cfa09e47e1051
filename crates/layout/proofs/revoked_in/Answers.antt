use Rattle.layout.proofs.Fields.{revoked-read}
use borrow.Author.Rules.{rules}
use Rattle.layout.proofs.revoked_in.Goals as goal

pub returns : goal.returns
returns c = revoked-read _ _ c.read.ensures c.revoked_of.ensures

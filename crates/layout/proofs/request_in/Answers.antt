use Rattle.layout.proofs.Fields.{request-read}
use borrow.Author.Rules.{rules}
use Rattle.layout.proofs.request_in.Goals as goal

pub returns : goal.returns
returns c = request-read _ _ c.read.ensures c.request_of.ensures

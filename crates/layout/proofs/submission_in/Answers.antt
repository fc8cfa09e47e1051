use Rattle.layout.proofs.Fields.{submission-read}
use borrow.Author.Rules.{rules}
use Rattle.layout.proofs.submission_in.Goals as goal

pub returns : goal.returns
returns c = submission-read _ _ c.read.ensures c.submission_of.ensures

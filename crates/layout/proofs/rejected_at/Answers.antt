use Rattle.layout.proofs.Fields.{rejected-read}
use borrow.Author.Rules.{rules}
use Rattle.layout.proofs.rejected_at.Goals as goal

pub returns : goal.returns
returns c = rejected-read _ _ _ (search rules) c.as_u8.ensures

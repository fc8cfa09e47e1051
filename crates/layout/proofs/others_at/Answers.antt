use Rattle.layout.proofs.Fields.{others-read}
use borrow.Author.Rules.{rules}
use Rattle.layout.proofs.others_at.Goals as goal

pub returns : goal.returns
returns c = others-read _ _ _ (search rules) c.as_u8.ensures

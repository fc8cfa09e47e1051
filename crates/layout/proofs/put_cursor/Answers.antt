use Rattle.layout.proofs.Becomes.{cursor-becomes}
use borrow.Author.Rules.{rules}
use Rattle.layout.proofs.put_cursor.Goals as goal

pub returns : goal.returns
returns c = cursor-becomes _ _ (search rules)

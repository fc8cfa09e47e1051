use Rattle.layout.proofs.Becomes.{pending-becomes}
use borrow.Author.Rules.{rules}
use Rattle.layout.proofs.put_pending.Goals as goal

pub returns : goal.returns
returns c = pending-becomes (search rules) c.write.ensures c.pending_words-words.ensures

use Rattle.layout.proofs.Becomes.{waiting-becomes}
use borrow.Author.Rules.{rules}
use Rattle.layout.proofs.put_waiting.Goals as goal

pub returns : goal.returns
returns c = waiting-becomes (search rules) c.write.ensures c.waiting_words-words.ensures

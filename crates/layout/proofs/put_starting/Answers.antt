use Rattle.layout.proofs.Becomes.{starting-becomes}
use borrow.Author.Rules.{rules}
use Rattle.layout.proofs.put_starting.Goals as goal

pub returns : goal.returns
returns c = starting-becomes (search rules) c.write.ensures c.starting_words-words.ensures

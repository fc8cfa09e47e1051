use Rattle.layout.proofs.Becomes.{carrying-becomes}
use borrow.Author.Rules.{rules}
use Rattle.layout.proofs.put_carrying.Goals as goal

pub returns : goal.returns
returns c = carrying-becomes (search rules) c.write.ensures c.carrying_words-words.ensures

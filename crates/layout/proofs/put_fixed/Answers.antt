use Rattle.layout.proofs.Becomes.{fixed-becomes}
use borrow.Author.Rules.{rules}
use Rattle.layout.proofs.put_fixed.Goals as goal

pub returns : goal.returns
returns c = fixed-becomes (search rules) c.write.ensures c.fixed_words-words.ensures

use Rattle.layout.proofs.Becomes.{numbers-becomes}
use borrow.Author.Rules.{rules}
use Rattle.layout.proofs.put_numbers.Goals as goal

pub returns : goal.returns
returns c = numbers-becomes (search rules) c.write.ensures c.numbers_words-words.ensures

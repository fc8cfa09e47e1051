use Rattle.layout.proofs.Becomes.{index-becomes}
use borrow.Author.Rules.{rules}
use Rattle.layout.proofs.put_index.Goals as goal

pub returns : goal.returns
returns c = index-becomes (search rules) c.write.ensures c.index_words-words.ensures

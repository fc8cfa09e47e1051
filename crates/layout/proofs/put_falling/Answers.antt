use Rattle.layout.proofs.Becomes.{falling-becomes}
use borrow.Author.Rules.{rules}
use Rattle.layout.proofs.put_falling.Goals as goal

pub returns : goal.returns
returns c = record {
  becomes = falling-becomes _ (search rules) c.write.ensures c.falling_words-words.ensures.0;
  falling_value = c.falling_words-words.ensures.1;
}

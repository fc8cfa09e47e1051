use Rattle.layout.proofs.Becomes.{entry-becomes}
use borrow.Author.Rules.{rules}
use Rattle.layout.proofs.put_entry.Goals as goal

pub returns : goal.returns
returns c = entry-becomes _ (search rules) (search rules) c.write.ensures c.replay_slot_words-words.ensures

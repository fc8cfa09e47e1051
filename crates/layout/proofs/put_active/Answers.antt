use Rattle.layout.proofs.Becomes.{active-becomes}
use borrow.Author.Rules.{rules}
use Rattle.layout.proofs.put_active.Goals as goal

pub returns : goal.returns
returns c = active-becomes _ (search rules) (search rules) c.write.ensures c.active_slot_words-words.ensures

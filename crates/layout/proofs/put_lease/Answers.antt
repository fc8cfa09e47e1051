use Rattle.layout.proofs.Becomes.{lease-becomes}
use borrow.Author.Rules.{rules}
use Rattle.layout.proofs.put_lease.Goals as goal

pub returns : goal.returns
returns c = lease-becomes _ (search rules) (search rules) c.write.ensures c.lease_slot_words-words.ensures

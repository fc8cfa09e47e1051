use Rattle.layout.proofs.Becomes.{revoked-becomes}
use borrow.Author.Rules.{rules}
use Rattle.layout.proofs.put_revoked.Goals as goal

pub returns : goal.returns
returns c = revoked-becomes (search rules) c.write.ensures c.revoked_words-words.ensures

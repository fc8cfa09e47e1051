use Rattle.layout.proofs.Becomes.{renewal-becomes}
use borrow.Author.Rules.{rules}
use Rattle.layout.proofs.put_renewal.Goals as goal

pub returns : goal.returns
returns c = renewal-becomes (search rules) c.write.ensures c.renewal_row-words.ensures

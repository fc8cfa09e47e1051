use Rattle.host.proofs.Lent.{taken-so}
use borrow.Author.Rules.{rules}
use Rattle.host.proofs.taken.Goals as goal

pub returns : goal.returns
returns c = taken-so c.read.ensures c.take.ensures

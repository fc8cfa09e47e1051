use Rattle.host.proofs.Lent.{told_of}
use borrow.Author.Rules.{rules}
use Rattle.host.proofs.tell.Goals as goal

pub returns : goal.returns
returns c = told_of c.read.ensures c.give.ensures c.taken_words.ensures

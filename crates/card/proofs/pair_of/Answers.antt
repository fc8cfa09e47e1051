use borrow.Author.Rules.{rules}
use Rattle.card.proofs.Pairs.{pair-of-by}
use Rattle.card.proofs.pair_of.Goals as goal

pub returns : goal.returns
returns c = pair-of-by c.args.n (search rules) c.signed.ensures c.signed-2.ensures

use borrow.Author.Rules.{rules}
use Rattle.decide_lease.proofs.Numbers.{sum_fits}
use Rattle.decide_lease.proofs.end_fits.Goals as goal

pub returns : goal.returns
returns c = sum_fits c.args.start c.args.«duration_ms» _ (search rules)

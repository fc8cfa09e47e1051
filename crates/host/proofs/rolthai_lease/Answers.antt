use borrow.Author.Rules.{rules}
use Rattle.format.specs.Decode.{reading_of}
use Rattle.host.proofs.Lent.{of-axis}
use Rattle.host.proofs.rolthai_lease.Goals as goal

pub returns : goal.returns
unfolding reading_of
returns c = of-axis (search rules) c.read.ensures

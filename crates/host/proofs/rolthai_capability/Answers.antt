use borrow.Author.Rules.{rules}
use Rattle.format.specs.Decode.{reading_of}
use Rattle.host.proofs.rolthai_capability.Goals as goal

pub returns : goal.returns
unfolding reading_of
returns c = c.read.ensures

use Rattle.layout.specs.Layout.{runtime_in}
use borrow.Author.Rules.{rules}
use Rattle.layout.proofs.reason_in.Goals as goal

pub returns : goal.returns
unfolding runtime_in
returns c = c.reason_of.ensures

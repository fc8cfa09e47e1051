use Rattle.layout.specs.Layout.{runtime_in}
use borrow.Author.Rules.{rules}
use Rattle.layout.proofs.axis_in.Goals as goal

pub returns : goal.returns
unfolding runtime_in
returns c = c.as_u8.ensures

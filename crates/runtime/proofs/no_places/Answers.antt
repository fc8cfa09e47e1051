use borrow.Author.Rules.{rules}
use Rattle.runtime.proofs.Openings.{empties}
use Rattle.runtime.proofs.no_places.Goals as goal

pub returns : goal.returns
returns c = empties _ c.empty.ensures (search rules) (search rules)

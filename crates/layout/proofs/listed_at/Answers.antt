use Rattle.layout.proofs.Listing.{listed-read}
use borrow.Author.Rules.{rules}
use Rattle.layout.proofs.listed_at.Goals as goal

pub returns : goal.returns
returns c = listed-read _ _ _ _ (search rules) c.read.ensures c.capability_of.ensures

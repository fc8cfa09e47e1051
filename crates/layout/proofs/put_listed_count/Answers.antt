use Rattle.layout.proofs.Listing.{count-lists}
use borrow.Author.Rules.{rules}
use Rattle.layout.proofs.put_listed_count.Goals as goal

pub returns : goal.returns
returns c = count-lists _ _ (search rules) (search rules)

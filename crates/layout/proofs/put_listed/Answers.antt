use Rattle.layout.proofs.Listing.{put-lists}
use borrow.Author.Rules.{rules}
use Rattle.layout.proofs.put_listed.Goals as goal

pub returns : goal.returns
returns c = put-lists _ _ _ _ _ (search rules) (search rules) c.write.ensures c.capability_row-words.ensures

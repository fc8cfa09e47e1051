use Rattle.host_start.proofs.Listings.{unlists}
use Rattle.host_start.proofs.unlist.Goals as goal

pub returns : goal.returns
returns c = unlists _ _ c.put_listed_count.ensures

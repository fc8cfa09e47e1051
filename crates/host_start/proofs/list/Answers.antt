use Rattle.host_start.proofs.Listings.{lists-one, lists-full}
use Rattle.host_start.proofs.list.Goals as goal

pub returns-then-count-lt17 : goal.returns-then-count-lt17
returns-then-count-lt17 c =
    lists-one _ _ _ _ _ c.listed_count-count.ensures.0 c.if-count-lt17.true c.put_listed.ensures
    c.put_listed_count.ensures

pub returns-else-count-lt17 : goal.returns-else-count-lt17
returns-else-count-lt17 c = lists-full _ _ _ c.listed_count-count.ensures.0 c.if-count-lt17.false c.listed_count-count.ensures.1

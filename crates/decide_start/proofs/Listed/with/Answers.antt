use Rattle.decide_start.proofs.Listings.{listing-more, listing_full}
use Rattle.decide_start.proofs.Listed.with.Goals as goal

pub returns-then-count-lt17 : goal.returns-then-count-lt17
returns-then-count-lt17 c =
    let a = c.args in
    λ l k. listing-more a.self l k a.capability c.if-count-lt17.true

pub returns : goal.returns
returns c =
    let a = c.args in
    λ l k. listing_full a.self l k a.capability c.if-count-lt17.false

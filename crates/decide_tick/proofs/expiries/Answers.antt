use Rattle.decide_tick.proofs.Due.{expires-so, ends_so}
use borrow.Author.Rules.{rules}
use Rattle.decide_tick.proofs.expiries.Goals as goal

pub returns-then-axis-lt8 : goal.returns-then-axis-lt8
returns-then-axis-lt8 c =
    let a = c.args in
    λ f from inside.
    expires-so f a.numbers a.time from a.axis a.lease _ _ c.is_lease_over.ensures c.over_reason.ensures
    c.if-axis-lt8.true (c.falls.ensures.1 f)

pub returns : goal.returns
returns c =
    let a = c.args in
    λ f from inside.
    ends_so f a.numbers a.time from a.axis a.lease _ c.refreshed.ensures (search rules) (c.goes_on.ensures f inside)

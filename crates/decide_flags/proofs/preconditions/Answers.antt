use Rattle.decide_flags.proofs.Forbidden.{forbids-so, refreshes-so}
use Rattle.decide_flags.proofs.preconditions.Goals as goal

pub returns-then-axis-lt8 : goal.returns-then-axis-lt8
returns-then-axis-lt8 c = (
  c.falls.ensures.0,
  let a = c.args in λ f from inside. forbids-so f a.numbers a.time from a.axis c.if-axis-lt8.true (c.falls.ensures.1 f),
)

pub returns : goal.returns
returns c = (
  c.returned.ensures.0,
  let a = c.args in
      λ f from inside.
      refreshes-so f a.numbers a.time from a.axis c.if-axis-lt8.false _ c.refreshed.ensures (c.returned.ensures.1 f inside),
)

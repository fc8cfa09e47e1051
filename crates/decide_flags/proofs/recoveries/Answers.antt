use Rattle.decide_flags.proofs.Recovery.{falls-on, idles-so, faults-so}
use Rattle.decide_flags.proofs.recoveries.Goals as goal

pub returns-then-axis-lt8 : goal.returns-then-axis-lt8
returns-then-axis-lt8 c = (
  c.falls.ensures.0,
  let a = c.args in
      λ inside.
      falls-on a.fixed a.numbers a.time a.from a.good _ c.first_used-axis.ensures c.if-axis-lt8.true (c.falls.ensures.1 a.fixed),
)

pub returns-then-good : goal.returns-then-good
returns-then-good c = (
  c.succeeded.ensures.0,
  let a = c.args in
      λ inside.
      idles-so a.fixed a.numbers a.time a.from a.good _ c.first_used-axis.ensures c.if-axis-lt8.false c.if-good.true
      (c.succeeded.ensures.1 a.fixed inside),
)

pub returns : goal.returns
returns c = (
  c.refused.ensures.0,
  let a = c.args in
      λ inside.
      faults-so a.fixed a.numbers a.time a.from a.good _ c.first_used-axis.ensures c.if-axis-lt8.false c.if-good.false
      (c.refused.ensures.1 a.fixed inside),
)

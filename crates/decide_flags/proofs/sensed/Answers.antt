use Rattle.decide_flags.proofs.Senses.{early-so, same-so, stop-so, new-so}
use borrow.Author.Rules.{rules}
use Rattle.decide_flags.proofs.sensed.Goals as goal

pub returns-then-time-numbers : goal.returns-then-time-numbers
returns-then-time-numbers c = (
  c.returned.ensures.0,
  let a = c.args in
      λ inside. early-so a.fixed a.numbers a.axis a.flags a.time c.if-time-numbers.true (c.returned.ensures.1 a.fixed inside),
)

pub returns-then-flags-old : goal.returns-then-flags-old
returns-then-flags-old c = (
  c.returned-then-flags-old.ensures.0,
  let a = c.args in
      λ inside.
      same-so a.fixed a.numbers a.axis a.flags a.time c.if-time-numbers.false c.if-flags-old.true (c.returned-then-flags-old.ensures.1 a.fixed inside),
)

pub returns-then-flags-config-ne0 : goal.returns-then-flags-config-ne0
returns-then-flags-config-ne0 c = (
  c.trips.ensures.0,
  let a = c.args in
      λ inside.
      stop-so a.fixed a.numbers a.axis a.flags a.time c.if-time-numbers.false c.if-flags-old.false _ c.bump_counter.ensures c.if-flags-config-ne0.true
      (c.trips.ensures.1 (search rules)),
)

pub returns : goal.returns
returns c = (
  c.preconditions.ensures.0,
  let a = c.args in
      λ inside.
      new-so a.fixed a.numbers a.axis a.flags a.time c.if-time-numbers.false c.if-flags-old.false _ c.bump_counter.ensures c.if-flags-config-ne0.false
      (c.preconditions.ensures.1 a.fixed 0 inside),
)

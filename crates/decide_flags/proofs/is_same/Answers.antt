use mathlib.Core.Bool.{false≢true}
use borrow.Author.Tests.{eqb-true}
use Rattle.decide_flags.proofs.Senses.{same_flags}
use Rattle.decide_flags.proofs.is_same.Goals as goal

pub returns-then-time-numbers : goal.returns-then-time-numbers
returns-then-time-numbers c = λ e. absurd (false≢true e)

pub returns : goal.returns
returns c =
    let a = c.args in
    λ e f. same_flags f a.numbers a.flags a.time c.if-time-numbers.false (eqb-true _ _ e)

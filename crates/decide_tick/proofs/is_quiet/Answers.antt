use mathlib.Core.Bool.{false≢true}
use mathlib.Core.Path.{sym, ◌∙◌}
use borrow.Author.Tests.{not-true}
use Rattle.decide_tick.proofs.Quiet.{quiet-so}
use Rattle.decide_tick.proofs.is_quiet.Goals as goal

pub returns-then-now-numbers : goal.returns-then-now-numbers
returns-then-now-numbers c = λ e. absurd (false≢true e)

pub returns-then-now-numbers-2 : goal.returns-then-now-numbers-2
returns-then-now-numbers-2 c = λ e. absurd (false≢true e)

pub returns-then-is_exhausted : goal.returns-then-is_exhausted
returns-then-is_exhausted c = λ e. absurd (false≢true e)

pub returns-then-now-numbers-3 : goal.returns-then-now-numbers-3
returns-then-now-numbers-3 c = λ e. absurd (false≢true e)

pub returns-then-is_armed : goal.returns-then-is_armed
returns-then-is_armed c =
    let a = c.args in
    λ e.
    quiet-so a.fixed a.numbers a.now c.if-now-numbers.false c.if-now-numbers-2.false
    (λ t. sym (c.is_exhausted.ensures a.fixed t) ∙ c.if-is_exhausted.false) (λ armed. c.if-now-numbers-3.false)
    (λ armed t. sym (c.is_stale.ensures t) ∙ not-true _ e)

pub returns : goal.returns
returns c =
    let a = c.args in
    λ e.
    quiet-so a.fixed a.numbers a.now c.if-now-numbers.false c.if-now-numbers-2.false
    (λ t. sym (c.is_exhausted.ensures a.fixed t) ∙ c.if-is_exhausted.false)
    (λ armed. absurd (false≢true (sym (sym c.is_armed.ensures ∙ c.if-is_armed.false) ∙ armed)))
    (λ armed t. absurd (false≢true (sym (sym c.is_armed.ensures ∙ c.if-is_armed.false) ∙ armed)))

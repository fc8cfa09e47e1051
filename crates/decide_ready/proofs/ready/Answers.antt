use borrow.Author.Tests.{lt-leb, le-leb}
use mathlib.Core.Path.{sym, ◌∙◌}
use native.Mathlib.Omega.{arith}
use Rattle.rules.specs.Admission.{first_failing, ready}
use Rattle.state.specs.State.{book_of}
use Rattle.decide_ready.proofs.ready.Goals as goal

pub returns-then-is_estopped : goal.returns-then-is_estopped
unfolding first_failing ready book_of
returns-then-is_estopped c = λ t. simp (sym c.is_estopped.ensures ∙ c.if-is_estopped.true)

pub returns-then-is_faulted : goal.returns-then-is_faulted
unfolding first_failing ready book_of
returns-then-is_faulted c = λ t. simp (sym c.is_estopped.ensures ∙ c.if-is_estopped.false, sym c.is_faulted.ensures ∙ c.if-is_faulted.true)

pub returns-then-now-numbers : goal.returns-then-now-numbers
unfolding first_failing ready book_of
returns-then-now-numbers c =
    λ t.
    let a = c.args in
    simp (sym c.is_estopped.ensures ∙ c.if-is_estopped.false, sym c.is_faulted.ensures ∙ c.if-is_faulted.false, lt-leb a.numbers.last_tick a.now (omega arith))

pub returns-then-is_stale : goal.returns-then-is_stale
unfolding first_failing ready book_of
returns-then-is_stale c =
    λ t.
    let a = c.args in
    simp (sym c.is_estopped.ensures ∙ c.if-is_estopped.false, sym c.is_faulted.ensures ∙ c.if-is_faulted.false, le-leb a.numbers.last_tick a.now (omega arith), sym (c.is_stale.ensures t) ∙ c.if-is_stale.true)

pub returns : goal.returns
unfolding first_failing ready book_of
returns c =
    λ t.
    let a = c.args in
    simp (sym c.is_estopped.ensures ∙ c.if-is_estopped.false, sym c.is_faulted.ensures ∙ c.if-is_faulted.false, le-leb a.numbers.last_tick a.now (omega arith), sym (c.is_stale.ensures t) ∙ c.if-is_stale.false)

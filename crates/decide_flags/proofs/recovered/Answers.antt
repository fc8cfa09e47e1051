use mathlib.Core.Path.{sym, ◌∙◌}
use borrow.Author.Tests.{lt-ltb, le-ltb}
use Rattle.decide_flags.proofs.Recovery.{estops-so, bars-so, recovers-so}
use Rattle.decide_flags.proofs.recovered.Goals as goal

pub returns-then-numbers-config-ne0 : goal.returns-then-numbers-config-ne0
returns-then-numbers-config-ne0 c = (
  c.refused.ensures.0,
  let a = c.args in
      λ inside. estops-so a.fixed a.numbers a.time c.if-numbers-config-ne0.true (c.refused.ensures.1 a.fixed inside),
)

pub returns-then-time-numbers : goal.returns-then-time-numbers
returns-then-time-numbers c = (
  c.refused-then-time-numbers.ensures.0,
  let a = c.args in
      λ inside.
      bars-so a.fixed a.numbers a.time c.if-numbers-config-ne0.false (λ t. simp (lt-ltb _ _ c.if-time-numbers.true)) (c.refused-then-time-numbers.ensures.1 a.fixed inside),
)

pub returns-then-is_stale : goal.returns-then-is_stale
returns-then-is_stale c = (
  c.refused-then-is_stale.ensures.0,
  let a = c.args in
      λ inside.
      bars-so a.fixed a.numbers a.time c.if-numbers-config-ne0.false
      (λ t. simp (le-ltb _ _ c.if-time-numbers.false, sym (c.is_stale.ensures t) ∙ c.if-is_stale.true))
      (c.refused-then-is_stale.ensures.1 a.fixed inside),
)

pub returns-then-is_exhausted : goal.returns-then-is_exhausted
returns-then-is_exhausted c = (
  c.refused-then-is_exhausted.ensures.0,
  let a = c.args in
      λ inside.
      bars-so a.fixed a.numbers a.time c.if-numbers-config-ne0.false
      (λ t.
      simp (
        le-ltb _ _ c.if-time-numbers.false,
        sym (c.is_stale.ensures t) ∙ c.if-is_stale.false,
        sym (c.is_exhausted.ensures a.fixed t) ∙ c.if-is_exhausted.true,
      ))
      (c.refused-then-is_exhausted.ensures.1 a.fixed inside),
)

pub returns : goal.returns
returns c = (
  c.recoveries.ensures.0,
  let a = c.args in
      λ inside.
      recovers-so a.fixed a.numbers a.time c.if-numbers-config-ne0.false
      (λ t.
      simp (
        le-ltb _ _ c.if-time-numbers.false,
        sym (c.is_stale.ensures t) ∙ c.if-is_stale.false,
        sym (c.is_exhausted.ensures a.fixed t) ∙ c.if-is_exhausted.false,
      ))
      (c.recoveries.ensures.1 inside),
)

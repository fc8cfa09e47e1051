use borrow.Author.Rules.{rules}
use mathlib.Core.Path.{◌≡◌, refl, sym, ◌∙◌}
use borrow.Author.Tests.{eq-eqb, ne_eqb, ltb-false}
use lib.Dec.{eqb}
use lib.ListN.{length}
use native.Mathlib.Omega.{arith}
use Rattle.model.proofs.Lists.{first-hit, first-miss, first-end}
use Rattle.decide_start.proofs.id_taken.Goals as goal

pub loop-i-init : goal.loop-i-init
loop-i-init c = refl

pub returns-then-c-id : goal.returns-then-c-id
returns-then-c-id c =
    let a = c.args in
    let l = c.loop-i in
    let n : length a.list ≡ 17 = search rules in
    sym (l.invariant ∙ first-hit (λ r. eqb r.id a.id) a.list a.count l.i _ (search rules) (search rules) (eq-eqb _ _ c.if-c-id.true))

pub loop-i-preserved : goal.loop-i-preserved
loop-i-preserved c =
    let a = c.args in
    let l = c.loop-i in
    let n : length a.list ≡ 17 = search rules in
    l.invariant ∙ first-miss (λ r. eqb r.id a.id) a.list a.count l.i _ (search rules) (search rules) (ne_eqb _ _ c.if-c-id.false)

pub returns-else-i-lt17 : goal.returns-else-i-lt17
returns-else-i-lt17 c =
    let a = c.args in
    let l = c.loop-i in
    sym (l.invariant ∙ first-end (λ r. eqb r.id a.id) a.list a.count l.i (omega (arith, ltb-false)))

pub returns-after-loop-i : goal.returns-after-loop-i
returns-after-loop-i c =
    let a = c.args in
    let l = c.loop-i in
    let n : length a.list ≡ 17 = search rules in
    sym (l.invariant ∙ first-end (λ r. eqb r.id a.id) a.list a.count l.i (omega (arith, ltb-false)))

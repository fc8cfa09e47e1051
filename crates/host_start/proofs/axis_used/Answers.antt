use borrow.Author.Rules.{rules}
use mathlib.Core.Path.{refl, sym, ◌∙◌}
use lib.Dec.{eqb}
use native.Mathlib.Omega.{arith}
use Rattle.model.specs.Records.{no_capability}
use Rattle.model.proofs.Lists.{first-hit, first-miss, first-end}
use Rattle.host_start.proofs.Listings.{in-listing}
use Rattle.host_start.proofs.axis_used.Goals as goal

pub loop-i-init : goal.loop-i-init
loop-i-init c = refl

pub returns-then-names_axis : goal.returns-then-names_axis
returns-then-names_axis c =
    let a = c.args in
    let l = c.loop-i in
    sym (l.invariant ∙ first-hit (λ r. eqb r.resource a.axis) _ a.count l.i no_capability (in-listing _ _ (search rules)) (search rules) (sym c.names_axis.ensures ∙ c.if-names_axis.true))

pub loop-i-preserved : goal.loop-i-preserved
loop-i-preserved c =
    let a = c.args in
    let l = c.loop-i in
    l.invariant ∙ first-miss (λ r. eqb r.resource a.axis) _ a.count l.i no_capability (in-listing _ _ (search rules)) (search rules) (sym c.names_axis.ensures ∙ c.if-names_axis.false)

pub returns : goal.returns
returns c =
    let a = c.args in
    let l = c.loop-i in
    sym (l.invariant ∙ first-end (λ r. eqb r.resource a.axis) _ a.count l.i (omega (arith, c.loop-i-test.false)))

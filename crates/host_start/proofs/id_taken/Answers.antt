use borrow.Author.Rules.{rules}
use mathlib.Core.Path.{refl, sym, ◌∙◌}
use lib.Dec.{eqb}
use native.Mathlib.Omega.{arith}
use Rattle.model.specs.Records.{no_capability}
use Rattle.model.proofs.Lists.{first-hit, first-miss, first-end}
use Rattle.host_start.proofs.Listings.{in-listing}
use Rattle.host_start.proofs.id_taken.Goals as goal

pub loop-i-init : goal.loop-i-init
loop-i-init c = refl

pub returns-then-has_id : goal.returns-then-has_id
returns-then-has_id c =
    let a = c.args in
    let l = c.loop-i in
    sym (l.invariant ∙ first-hit (λ r. eqb r.id a.id) _ a.count l.i no_capability (in-listing _ _ (search rules)) (search rules) (sym c.has_id.ensures ∙ c.if-has_id.true))

pub loop-i-preserved : goal.loop-i-preserved
loop-i-preserved c =
    let a = c.args in
    let l = c.loop-i in
    l.invariant ∙ first-miss (λ r. eqb r.id a.id) _ a.count l.i no_capability (in-listing _ _ (search rules)) (search rules) (sym c.has_id.ensures ∙ c.if-has_id.false)

pub returns : goal.returns
returns c =
    let a = c.args in
    let l = c.loop-i in
    sym (l.invariant ∙ first-end (λ r. eqb r.id a.id) _ a.count l.i (omega (arith, c.loop-i-test.false)))

use borrow.Author.Rules.{rules}
use borrow.Author.Tests.{not-true, not-false}
use mathlib.Core.Path.{refl, sym, ap, ◌∙◌}
use native.Mathlib.Omega.{arith}
use Rattle.model.specs.Records.{no_capability}
use Rattle.model.specs.Soundness.{sound}
use Rattle.decide_start.proofs.Records.{record-unsound, record-taken, record-passes, records-end}
use Rattle.host_start.proofs.Listings.{in-listing, taken_at}
use Rattle.host_start.proofs.refused_record.Goals as goal

pub loop-i-init : goal.loop-i-init
loop-i-init c = refl

pub returns-then-not-sound : goal.returns-then-not-sound
returns-then-not-sound c =
    let is = c.listed_at-capability.ensures in
    sym (c.loop-i.invariant ∙ record-unsound _ c.args.count c.loop-i.i no_capability (in-listing _ _ (search rules)) (search rules) (ap sound (sym is) ∙ sym c.is_sound-sound.ensures ∙ not-true _ c.if-not-sound.true-raw))

pub returns-then-id_taken : goal.returns-then-id_taken
returns-then-id_taken c =
    let is = c.listed_at-capability.ensures in
    sym
    (c.loop-i.invariant
    ∙ record-taken _ c.args.count c.loop-i.i no_capability (in-listing _ _ (search rules)) (search rules)
    (ap sound (sym is) ∙ sym c.is_sound-sound.ensures ∙ not-false _ c.if-not-sound.false-raw)
    (taken_at _ _ _ _ _ is c.id_taken.ensures c.if-id_taken.true))

pub loop-i-preserved : goal.loop-i-preserved
loop-i-preserved c =
    let is = c.listed_at-capability.ensures in
    c.loop-i.invariant
    ∙ record-passes _ c.args.count c.loop-i.i no_capability (in-listing _ _ (search rules)) (search rules)
    (ap sound (sym is) ∙ sym c.is_sound-sound.ensures ∙ not-false _ c.if-not-sound.false-raw)
    (taken_at _ _ _ _ _ is c.id_taken.ensures c.if-id_taken.false)

pub returns : goal.returns
returns c = sym (c.loop-i.invariant ∙ records-end _ _ c.args.count c.loop-i.i (omega (arith, c.loop-i-test.false)))

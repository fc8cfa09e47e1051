use borrow.Author.Rules.{rules}
use borrow.Author.Tests.{ltb-false}
use mathlib.Core.Path.{◌≡◌, refl, sym, ◌∙◌}
use lib.ListN.{length}
use native.Mathlib.Omega.{arith}
use Rattle.decide_start.proofs.Records.{record-unsound, record-taken, record-passes, records-end}
use Rattle.decide_start.proofs.refused_record.Goals as goal

pub loop-i-init : goal.loop-i-init
loop-i-init c = refl

pub returns-then-not-sound : goal.returns-then-not-sound
returns-then-not-sound c =
    let a = c.args in
    let l = c.loop-i in
    let n : length a.list ≡ 17 = search rules in
    sym (l.invariant ∙ record-unsound a.list a.count l.i _ (search rules) (search rules) (sym c.is_sound-sound.ensures ∙ c.if-not-sound.true))

pub returns-then-taken : goal.returns-then-taken
returns-then-taken c =
    let a = c.args in
    let l = c.loop-i in
    let n : length a.list ≡ 17 = search rules in
    sym (l.invariant ∙ record-taken a.list a.count l.i _ (search rules) (search rules) (sym c.is_sound-sound.ensures ∙ c.if-not-sound.false) (sym c.id_taken-taken.ensures ∙ c.if-taken.true))

pub loop-i-preserved : goal.loop-i-preserved
loop-i-preserved c =
    let a = c.args in
    let l = c.loop-i in
    let n : length a.list ≡ 17 = search rules in
    l.invariant ∙ record-passes a.list a.count l.i _ (search rules) (search rules) (sym c.is_sound-sound.ensures ∙ c.if-not-sound.false) (sym c.id_taken-taken.ensures ∙ c.if-taken.false)

pub returns-else-i-lt17 : goal.returns-else-i-lt17
returns-else-i-lt17 c =
    let a = c.args in
    let l = c.loop-i in
    let n : length a.list ≡ 17 = search rules in
    sym (l.invariant ∙ records-end _ a.list a.count l.i (omega (arith, ltb-false)))

pub returns-after-loop-i : goal.returns-after-loop-i
returns-after-loop-i c =
    let a = c.args in
    let l = c.loop-i in
    let n : length a.list ≡ 17 = search rules in
    sym (l.invariant ∙ records-end _ a.list a.count l.i (omega (arith, ltb-false)))

use borrow.Author.Tests.{eq-eqb, ne_eqb}
use mathlib.Core.Path.{sym, ◌∙◌}
use Rattle.decide_start.proofs.Listings.{refused-listed}
use Rattle.decide_start.proofs.refused_start.Goals as goal

pub returns-then-boot_id-eq0 : goal.returns-then-boot_id-eq0
returns-then-boot_id-eq0 c =
    let a = c.args in
    λ l time flags k. sym (refused-listed a.config a.listed l a.boot_id time flags k ∙ rw (eq-eqb _ _ c.if-boot_id-eq0.true))

pub returns-then-bad : goal.returns-then-bad
returns-then-bad c =
    let a = c.args in
    λ l time flags k.
    sym (refused-listed a.config a.listed l a.boot_id time flags k ∙ rw (ne_eqb _ _ c.if-boot_id-eq0.false, sym c.is_bad-bad.ensures ∙ c.if-bad.true))

pub returns : goal.returns
returns c =
    let a = c.args in
    λ l time flags k.
    c.refused_record.ensures
    ∙ sym (refused-listed a.config a.listed l a.boot_id time flags k ∙ rw (ne_eqb _ _ c.if-boot_id-eq0.false, sym c.is_bad-bad.ensures ∙ c.if-bad.false))

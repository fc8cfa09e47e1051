use borrow.Author.Tests.{eq-eqb, ne_eqb}
use mathlib.Core.Path.{sym, ◌∙◌}
use Rattle.decide_start.proofs.Listings.{refused-listed}
use Rattle.host_start.proofs.refused_start.Goals as goal

pub returns-then-boot_id-eq0 : goal.returns-then-boot_id-eq0
returns-then-boot_id-eq0 c = λ l time flags k. sym (refused-listed c.args.config _ l c.args.boot_id time flags k ∙ rw (eq-eqb _ _ c.if-boot_id-eq0.true))

pub returns-then-bad : goal.returns-then-bad
returns-then-bad c =
    let bad = c.is_bad-bad.ensures in
    let n = c.listed_count-count.ensures.0 in
    λ l time flags k.
    sym (refused-listed c.args.config _ l c.args.boot_id time flags k ∙ rw (ne_eqb _ _ c.if-boot_id-eq0.false, sym n, sym bad ∙ c.if-bad.true))

pub returns : goal.returns
returns c =
    let bad = c.is_bad-bad.ensures in
    let n = c.listed_count-count.ensures.0 in
    λ l time flags k.
    c.refused_record.ensures
    ∙ sym (refused-listed c.args.config _ l c.args.boot_id time flags k ∙ rw (ne_eqb _ _ c.if-boot_id-eq0.false, sym n, sym bad ∙ c.if-bad.false))

use mathlib.Core.Path.{sym, ◌∙◌}
use Rattle.card.proofs.Gathering.{clear-on, none-on, set_on}
use Rattle.card.proofs.read_field.Goals as goal

pub returns-then-map-i-eq0 : goal.returns-then-map-i-eq0
returns-then-map-i-eq0 c =
    let a = c.args in
    clear-on a.map a.body.now a.i c.requires.0 a.place a.numbers.now c.requires.1 c.if-map-i-eq0.true

pub returns-in_err-numbers : goal.returns-in_err-numbers
returns-in_err-numbers c =
    let a = c.args in
    let f = sym c.field_at.ensures ∙ c.in_err-numbers.was in
    rw c.from_residual.ensures (none-on a.map a.body.now a.i c.requires.0 a.place a.numbers.now c.requires.1 _ c.width-width.ensures.value c.if-map-i-eq0.false f)

pub returns : goal.returns
returns c =
    let a = c.args in
    let f = sym c.field_at.ensures ∙ c.in_ok-numbers.was in
    set_on a.map a.body.now a.i c.requires.0 a.place a.numbers.now c.requires.1 _ c.width-width.ensures.value c.if-map-i-eq0.false _ f

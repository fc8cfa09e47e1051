use borrow.Author.Rules.{rules}
use mathlib.Core.Bool.{false}
use mathlib.Core.Path.{refl, sym, ap, ◌∙◌}
use lib.ListN.{get_or}
use Rattle.state.specs.Axes.{first_or8, first_from}
use Rattle.state.proofs.Axes.{select-hit, select-miss, select-end}
use Rattle.state.proofs.first_used.Goals as goal

pub loop-axis-init : goal.loop-axis-init
loop-axis-init c = refl

pub returns-then-used-axis : goal.returns-then-used-axis
unfolding first_from first_or8
returns-then-used-axis c =
    let l = c.loop-axis in
    sym (l.invariant ∙ ap first_or8 (select-hit (λ i. get_or c.args.used i false) l.axis (search rules) c.if-used-axis.true))

pub loop-axis-preserved : goal.loop-axis-preserved
unfolding first_from
loop-axis-preserved c =
    let l = c.loop-axis in
    l.invariant ∙ ap first_or8 (select-miss (λ i. get_or c.args.used i false) l.axis (search rules) c.if-used-axis.false)

pub returns : goal.returns
unfolding first_from first_or8
returns c =
    let l = c.loop-axis in
    sym (l.invariant ∙ ap first_or8 (select-end (λ i. get_or c.args.used i false) l.axis (search rules)))

use borrow.Author.Rules.{rules}
use lib.ListN.{take}
use native.Mathlib.Omega.{arith}
use Rattle.model.specs.Soundness.{axis_used}
use Rattle.decide_start.proofs.Axes.{mark-more}
use Rattle.layout.specs.Layout.{listing_in}
use Rattle.host_start.proofs.mark_resources.Goals as goal

pub loop-i-init : goal.loop-i-init
loop-i-init c = (search rules, search rules, λ axis h. absurd (omega arith))

pub loop-i-preserved : goal.loop-i-preserved
loop-i-preserved c = (search rules, search rules, mark-more (axis_used (take c.args.count (listing_in _).records)) c.loop-i.marks c.loop-i.i _ (search rules) c.axis_used.ensures c.loop-i.invariant.2)

pub returns : goal.returns
returns c = λ axis h. c.loop-i.invariant.2 axis (search rules)

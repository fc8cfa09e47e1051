use mathlib.Core.Path.{◌∙◌, refl}
use Rattle.runtime.proofs.Cells.{same_at, fails, step-nearer, step-within, below_next, bears}
use Rattle.model.specs.Records.{no_active}
use Rattle.runtime.proofs.Looks.{low-order, first-here, first_on, first_past, forbidden-at, forbidden_at}
use Rattle.runtime.proofs.look_forbidden.Goals as goal

pub returns-else-not-is_forbidden : goal.returns-else-not-is_forbidden
returns-else-not-is_forbidden c = (first-here (forbidden_at c.args.rt.now c.args.flags) (c.loop-i.i) c.loop-i-test.true (forbidden-at c.args.rt.now (c.requires.0) (c.loop-i.i) c.loop-i-test.true c.args.flags) (bears (rw (same_at _ no_active c.args.rt.now.active c.loop-i.i (low-order c.args.rt.now c.requires.0 c.loop-i.i c.loop-i-test.true)) at c.is_forbidden.ensures) c.if-not-is_forbidden.false) ∙ c.loop-i.invariant.so_far, below_next 8 (c.loop-i.i) (c.loop-i.invariant.within))

pub returns-after-loop-i : goal.returns-after-loop-i
returns-after-loop-i c = (first_past (forbidden_at c.args.rt.now c.args.flags) (c.loop-i.i) (c.loop-i.invariant.within) c.loop-i-test.false ∙ c.loop-i.invariant.so_far, below_next 8 (c.loop-i.i) (c.loop-i.invariant.within))

pub loop-i-init : goal.loop-i-init
loop-i-init c = record { within = c.requires.1; so_far = refl }

pub loop-i-preserved : goal.loop-i-preserved
loop-i-preserved c = record { within = step-within 8 (c.loop-i.i) c.loop-i-test.true; so_far = first_on (forbidden_at c.args.rt.now c.args.flags) (c.loop-i.i) c.loop-i-test.true (forbidden-at c.args.rt.now (c.requires.0) (c.loop-i.i) c.loop-i-test.true c.args.flags) (fails (rw (same_at _ no_active c.args.rt.now.active c.loop-i.i (low-order c.args.rt.now c.requires.0 c.loop-i.i c.loop-i-test.true)) at c.is_forbidden.ensures) c.if-not-is_forbidden.true) ∙ c.loop-i.invariant.so_far }

pub loop-i-smaller : goal.loop-i-smaller
loop-i-smaller c = step-nearer 8 (c.loop-i.i) c.loop-i-test.true
